use Rattle.std.proofs.Common.{◌≡◌, ℕ, ◌^◌, ◌<◌, get_or, Some, ◌≤◌, ◌++◌, true, List, length, drop, None, Option, sym, refl, ap, ◌∙◌, subst, ap₂, arith, rules}
use Rattle.bit_block.specs.declared.config.Config.{Config}
use Rattle.bitset_interface.specs.Refusals.{Refusal}
use Rattle.packing.specs.Wrote.{Wrote}
use Rattle.packing.specs.declared.Numbers.{Numbers}
use Rattle.reader.specs.Fields.{Took}
use Rattle.reader.specs.Streams.{Stream, after}
use Rattle.serialization.specs.Bodies.{needed_of, level1_in, blocks_in, blocks_behind, suffice}
use Rattle.serialization.specs.Layout.{header_fields}
use Rattle.serialization.specs.Outcomes.{headed}
use Rattle.serialization.specs.Stored.{stored}
use Rattle.serialization.specs.declared.fields.Header.{Header}
use Rattle.serialization.proofs.BodyWords.{enough}
use Rattle.vetting.specs.Outcomes.{words_for}
use Rattle.vetting.specs.Rules.{broken}
use Rattle.immutable_bitset.proofs.Loading.{needed_here, words_here, body_wrote, top_refused, body_took, loaded, broken_same, sound}
use Rattle.immutable_bitset.proofs.Stages.{header_taken, at_header, few_words, reader_refused, all_read}
use Rattle.immutable_bitset.proofs.deserialize.load.Goals as goal

pub returns-in_err-header-clause-refused : goal.returns-in_err-header-clause-refused
returns-in_err-header-clause-refused g c =
    let k : Config = c.args.config in
    let ws : List ℕ = c.args.words.now in
    let s : Stream = g.R.Reader.means c.args.reader.now in
    let t1 : Stream = g.R.Reader.means c.read_header.new.reader in
    let z = at_header k (length ws) s _ c.in_err-header.ensures.refused in
    let h = c.in_err-header.ensures.refused ∙ sym (ap (λ o. o.refusal) z) in
    search rules

pub returns-in_err-header-clause-left : goal.returns-in_err-header-clause-left
returns-in_err-header-clause-left g c =
    let k : Config = c.args.config in
    let ws : List ℕ = c.args.words.now in
    let s : Stream = g.R.Reader.means c.args.reader.now in
    let t1 : Stream = g.R.Reader.means c.read_header.new.reader in
    let z = at_header k (length ws) s _ c.in_err-header.ensures.refused in
    c.in_err-header.ensures.left ∙ sym (ap (λ o. after o.taken s) z)

pub returns-then-words-all-clause-refused : goal.returns-then-words-all-clause-refused
returns-then-words-all-clause-refused g c =
    let k : Config = c.args.config in
    let ws : List ℕ = c.args.words.now in
    let s : Stream = g.R.Reader.means c.args.reader.now in
    let t1 : Stream = g.R.Reader.means c.read_header.new.reader in
    let h : Header = c.in_ok-header.header in
    let e : ◌≡◌ {A = Option Refusal} (headed s).refusal None = sym c.in_ok-header.ensures.refused in
    let need : c.words_needed-all.result ≡ words_for k s.front.bytes = words_here k h s.front.bytes c.words_needed-all.result c.words_needed-all.ensures c.in_ok-header.ensures.rows c.in_ok-header.ensures.blocks in
    (few_words k (length ws) s e c.words_needed-all.result t1 need c.if-words-all.true c.in_ok-header.ensures.left).0

pub returns-then-words-all-clause-left : goal.returns-then-words-all-clause-left
returns-then-words-all-clause-left g c =
    let k : Config = c.args.config in
    let ws : List ℕ = c.args.words.now in
    let s : Stream = g.R.Reader.means c.args.reader.now in
    let t1 : Stream = g.R.Reader.means c.read_header.new.reader in
    let h : Header = c.in_ok-header.header in
    let e : ◌≡◌ {A = Option Refusal} (headed s).refusal None = sym c.in_ok-header.ensures.refused in
    let need : c.words_needed-all.result ≡ words_for k s.front.bytes = words_here k h s.front.bytes c.words_needed-all.result c.words_needed-all.ensures c.in_ok-header.ensures.rows c.in_ok-header.ensures.blocks in
    (few_words k (length ws) s e c.words_needed-all.result t1 need c.if-words-all.true c.in_ok-header.ensures.left).1

pub returns-in_err-numbers-clause-refused : goal.returns-in_err-numbers-clause-refused
returns-in_err-numbers-clause-refused g c =
    let k : Config = c.args.config in
    let ws : List ℕ = c.args.words.now in
    let s : Stream = g.R.Reader.means c.args.reader.now in
    let t1 : Stream = g.R.Reader.means c.read_header.new.reader in
    let h : Header = c.in_ok-header.header in
    let e : ◌≡◌ {A = Option Refusal} (headed s).refusal None = sym c.in_ok-header.ensures.refused in
    let need : c.words_needed-all.result ≡ words_for k s.front.bytes = words_here k h s.front.bytes c.words_needed-all.result c.words_needed-all.ensures c.in_ok-header.ensures.rows c.in_ok-header.ensures.blocks in
    let room : words_for k s.front.bytes ≤ length ws = omega (arith, need, c.if-words-all.false) in
    let first : Took header_fields s None t1 = header_taken s e t1 c.in_ok-header.ensures.left in
    let t2 : Stream = g.R.Reader.means c.read_top.new.reader in
    let o = reader_refused k (length ws) s e room c.in_err-numbers.field-0.0 t2 (top_refused k s t1 t2 c.in_err-numbers.field-0.0 first c.in_err-numbers.ensures.took) in
    let r = o.0 in
    search rules

pub returns-in_err-numbers-clause-left : goal.returns-in_err-numbers-clause-left
returns-in_err-numbers-clause-left g c =
    let k : Config = c.args.config in
    let ws : List ℕ = c.args.words.now in
    let s : Stream = g.R.Reader.means c.args.reader.now in
    let t1 : Stream = g.R.Reader.means c.read_header.new.reader in
    let h : Header = c.in_ok-header.header in
    let e : ◌≡◌ {A = Option Refusal} (headed s).refusal None = sym c.in_ok-header.ensures.refused in
    let need : c.words_needed-all.result ≡ words_for k s.front.bytes = words_here k h s.front.bytes c.words_needed-all.result c.words_needed-all.ensures c.in_ok-header.ensures.rows c.in_ok-header.ensures.blocks in
    let room : words_for k s.front.bytes ≤ length ws = omega (arith, need, c.if-words-all.false) in
    let first : Took header_fields s None t1 = header_taken s e t1 c.in_ok-header.ensures.left in
    let t2 : Stream = g.R.Reader.means c.read_top.new.reader in
    let o = reader_refused k (length ws) s e room c.in_err-numbers.field-0.0 t2 (top_refused k s t1 t2 c.in_err-numbers.field-0.0 first c.in_err-numbers.ensures.took) in
    o.1

pub returns-in_err-read_body-clause-refused : goal.returns-in_err-read_body-clause-refused
returns-in_err-read_body-clause-refused g c =
    let k : Config = c.args.config in
    let ws : List ℕ = c.args.words.now in
    let s : Stream = g.R.Reader.means c.args.reader.now in
    let t1 : Stream = g.R.Reader.means c.read_header.new.reader in
    let h : Header = c.in_ok-header.header in
    let e : ◌≡◌ {A = Option Refusal} (headed s).refusal None = sym c.in_ok-header.ensures.refused in
    let need : c.words_needed-all.result ≡ words_for k s.front.bytes = words_here k h s.front.bytes c.words_needed-all.result c.words_needed-all.ensures c.in_ok-header.ensures.rows c.in_ok-header.ensures.blocks in
    let room : words_for k s.front.bytes ≤ length ws = omega (arith, need, c.if-words-all.false) in
    let first : Took header_fields s None t1 = header_taken s e t1 c.in_ok-header.ensures.left in
    let t2 : Stream = g.R.Reader.means c.read_top.new.reader in
    let m : Numbers = c.in_ok-numbers.numbers in
    let q = c.in_ok-numbers.ensures in
    let yes : suffice m (length ws) ≡ true =
    enough m c.words_needed-all.result (length ws) (needed_here k h t1.front.bytes m c.words_needed-all.result q.gives c.words_needed-all.ensures) c.if-words-all.false in
    let t3 : Stream = g.R.Reader.means c.read_body.new.reader in
    let f = c.in_err-read_body.field-0.0 in
    let o = reader_refused k (length ws) s e room f t3 (body_took k h s t1 t2 m c.in_ok-header.ensures.rows c.in_ok-header.ensures.blocks first q.took q.gives (length ws) yes (Some f) t3 c.in_err-read_body.ensures.took) in
    let r = o.0 in
    search rules

pub returns-in_err-read_body-clause-left : goal.returns-in_err-read_body-clause-left
returns-in_err-read_body-clause-left g c =
    let k : Config = c.args.config in
    let ws : List ℕ = c.args.words.now in
    let s : Stream = g.R.Reader.means c.args.reader.now in
    let t1 : Stream = g.R.Reader.means c.read_header.new.reader in
    let h : Header = c.in_ok-header.header in
    let e : ◌≡◌ {A = Option Refusal} (headed s).refusal None = sym c.in_ok-header.ensures.refused in
    let need : c.words_needed-all.result ≡ words_for k s.front.bytes = words_here k h s.front.bytes c.words_needed-all.result c.words_needed-all.ensures c.in_ok-header.ensures.rows c.in_ok-header.ensures.blocks in
    let room : words_for k s.front.bytes ≤ length ws = omega (arith, need, c.if-words-all.false) in
    let first : Took header_fields s None t1 = header_taken s e t1 c.in_ok-header.ensures.left in
    let t2 : Stream = g.R.Reader.means c.read_top.new.reader in
    let m : Numbers = c.in_ok-numbers.numbers in
    let q = c.in_ok-numbers.ensures in
    let yes : suffice m (length ws) ≡ true =
    enough m c.words_needed-all.result (length ws) (needed_here k h t1.front.bytes m c.words_needed-all.result q.gives c.words_needed-all.ensures) c.if-words-all.false in
    let t3 : Stream = g.R.Reader.means c.read_body.new.reader in
    let f = c.in_err-read_body.field-0.0 in
    let o = reader_refused k (length ws) s e room f t3 (body_took k h s t1 t2 m c.in_ok-header.ensures.rows c.in_ok-header.ensures.blocks first q.took q.gives (length ws) yes (Some f) t3 c.in_err-read_body.ensures.took) in
    o.1

pub new-requires : goal.new-requires
new-requires g c =
    let k : Config = c.args.config in
    let ws : List ℕ = c.args.words.now in
    let s : Stream = g.R.Reader.means c.args.reader.now in
    let t1 : Stream = g.R.Reader.means c.read_header.new.reader in
    let h : Header = c.in_ok-header.header in
    let e : ◌≡◌ {A = Option Refusal} (headed s).refusal None = sym c.in_ok-header.ensures.refused in
    let need : c.words_needed-all.result ≡ words_for k s.front.bytes = words_here k h s.front.bytes c.words_needed-all.result c.words_needed-all.ensures c.in_ok-header.ensures.rows c.in_ok-header.ensures.blocks in
    let room : words_for k s.front.bytes ≤ length ws = omega (arith, need, c.if-words-all.false) in
    let first : Took header_fields s None t1 = header_taken s e t1 c.in_ok-header.ensures.left in
    let t2 : Stream = g.R.Reader.means c.read_top.new.reader in
    let m : Numbers = c.in_ok-numbers.numbers in
    let q = c.in_ok-numbers.ensures in
    let yes : suffice m (length ws) ≡ true =
    enough m c.words_needed-all.result (length ws) (needed_here k h t1.front.bytes m c.words_needed-all.result q.gives c.words_needed-all.ensures) c.if-words-all.false in
    let t3 : Stream = g.R.Reader.means c.read_body.new.reader in
    let new : List ℕ = c.read_body.new.words in
    let b = c.in_ok-read_body.ensures in
    let w : Wrote ws new 0 (level1_in m t2.front.bytes ++ blocks_in m (drop (blocks_behind m) t2.front.bytes)) (needed_of m) = body_wrote m t2.front.bytes ws new yes b.gives in
    omega (arith, w.within, w.long)

pub returns-in_err-vet-clause-refused : goal.returns-in_err-vet-clause-refused
returns-in_err-vet-clause-refused g c =
    let k : Config = c.args.config in
    let ws : List ℕ = c.args.words.now in
    let s : Stream = g.R.Reader.means c.args.reader.now in
    let t1 : Stream = g.R.Reader.means c.read_header.new.reader in
    let h : Header = c.in_ok-header.header in
    let e : ◌≡◌ {A = Option Refusal} (headed s).refusal None = sym c.in_ok-header.ensures.refused in
    let need : c.words_needed-all.result ≡ words_for k s.front.bytes = words_here k h s.front.bytes c.words_needed-all.result c.words_needed-all.ensures c.in_ok-header.ensures.rows c.in_ok-header.ensures.blocks in
    let room : words_for k s.front.bytes ≤ length ws = omega (arith, need, c.if-words-all.false) in
    let first : Took header_fields s None t1 = header_taken s e t1 c.in_ok-header.ensures.left in
    let t2 : Stream = g.R.Reader.means c.read_top.new.reader in
    let m : Numbers = c.in_ok-numbers.numbers in
    let q = c.in_ok-numbers.ensures in
    let yes : suffice m (length ws) ≡ true =
    enough m c.words_needed-all.result (length ws) (needed_here k h t1.front.bytes m c.words_needed-all.result q.gives c.words_needed-all.ensures) c.if-words-all.false in
    let t3 : Stream = g.R.Reader.means c.read_body.new.reader in
    let new : List ℕ = c.read_body.new.words in
    let b = c.in_ok-read_body.ensures in
    let w : Wrote ws new 0 (level1_in m t2.front.bytes ++ blocks_in m (drop (blocks_behind m) t2.front.bytes)) (needed_of m) = body_wrote m t2.front.bytes ws new yes b.gives in
    let o = all_read k (length ws) s e room t3 (body_took k h s t1 t2 m c.in_ok-header.ensures.rows c.in_ok-header.ensures.blocks first q.took q.gives (length ws) yes None t3 b.took) in
    let seen : broken c.new.result.numbers.now.config (stored c.new.result.numbers.now c.new.result.words.now) ≡ broken m.config (stored m new) =
    ap₂ (λ (x : Numbers) (y : List ℕ). broken x.config (stored x y)) c.new.ensures.numbers c.new.ensures.words in
    let r = c.in_err-vet.ensures ∙ seen ∙ broken_same k h s t1 t2 m c.in_ok-header.ensures.rows c.in_ok-header.ensures.blocks first q.took q.gives (length ws) yes ws new refl w (b.small yes) ∙ sym o.0 in
    search rules

pub returns-in_err-vet-clause-left : goal.returns-in_err-vet-clause-left
returns-in_err-vet-clause-left g c =
    let k : Config = c.args.config in
    let ws : List ℕ = c.args.words.now in
    let s : Stream = g.R.Reader.means c.args.reader.now in
    let t1 : Stream = g.R.Reader.means c.read_header.new.reader in
    let h : Header = c.in_ok-header.header in
    let e : ◌≡◌ {A = Option Refusal} (headed s).refusal None = sym c.in_ok-header.ensures.refused in
    let need : c.words_needed-all.result ≡ words_for k s.front.bytes = words_here k h s.front.bytes c.words_needed-all.result c.words_needed-all.ensures c.in_ok-header.ensures.rows c.in_ok-header.ensures.blocks in
    let room : words_for k s.front.bytes ≤ length ws = omega (arith, need, c.if-words-all.false) in
    let first : Took header_fields s None t1 = header_taken s e t1 c.in_ok-header.ensures.left in
    let t2 : Stream = g.R.Reader.means c.read_top.new.reader in
    let m : Numbers = c.in_ok-numbers.numbers in
    let q = c.in_ok-numbers.ensures in
    let yes : suffice m (length ws) ≡ true =
    enough m c.words_needed-all.result (length ws) (needed_here k h t1.front.bytes m c.words_needed-all.result q.gives c.words_needed-all.ensures) c.if-words-all.false in
    let t3 : Stream = g.R.Reader.means c.read_body.new.reader in
    let new : List ℕ = c.read_body.new.words in
    let b = c.in_ok-read_body.ensures in
    let w : Wrote ws new 0 (level1_in m t2.front.bytes ++ blocks_in m (drop (blocks_behind m) t2.front.bytes)) (needed_of m) = body_wrote m t2.front.bytes ws new yes b.gives in
    let o = all_read k (length ws) s e room t3 (body_took k h s t1 t2 m c.in_ok-header.ensures.rows c.in_ok-header.ensures.blocks first q.took q.gives (length ws) yes None t3 b.took) in
    o.1

pub returns-clause-refused : goal.returns-clause-refused
returns-clause-refused g c =
    let k : Config = c.args.config in
    let ws : List ℕ = c.args.words.now in
    let s : Stream = g.R.Reader.means c.args.reader.now in
    let t1 : Stream = g.R.Reader.means c.read_header.new.reader in
    let h : Header = c.in_ok-header.header in
    let e : ◌≡◌ {A = Option Refusal} (headed s).refusal None = sym c.in_ok-header.ensures.refused in
    let need : c.words_needed-all.result ≡ words_for k s.front.bytes = words_here k h s.front.bytes c.words_needed-all.result c.words_needed-all.ensures c.in_ok-header.ensures.rows c.in_ok-header.ensures.blocks in
    let room : words_for k s.front.bytes ≤ length ws = omega (arith, need, c.if-words-all.false) in
    let first : Took header_fields s None t1 = header_taken s e t1 c.in_ok-header.ensures.left in
    let t2 : Stream = g.R.Reader.means c.read_top.new.reader in
    let m : Numbers = c.in_ok-numbers.numbers in
    let q = c.in_ok-numbers.ensures in
    let yes : suffice m (length ws) ≡ true =
    enough m c.words_needed-all.result (length ws) (needed_here k h t1.front.bytes m c.words_needed-all.result q.gives c.words_needed-all.ensures) c.if-words-all.false in
    let t3 : Stream = g.R.Reader.means c.read_body.new.reader in
    let new : List ℕ = c.read_body.new.words in
    let b = c.in_ok-read_body.ensures in
    let w : Wrote ws new 0 (level1_in m t2.front.bytes ++ blocks_in m (drop (blocks_behind m) t2.front.bytes)) (needed_of m) = body_wrote m t2.front.bytes ws new yes b.gives in
    let o = all_read k (length ws) s e room t3 (body_took k h s t1 t2 m c.in_ok-header.ensures.rows c.in_ok-header.ensures.blocks first q.took q.gives (length ws) yes None t3 b.took) in
    let seen : broken c.new.result.numbers.now.config (stored c.new.result.numbers.now c.new.result.words.now) ≡ broken m.config (stored m new) =
    ap₂ (λ (x : Numbers) (y : List ℕ). broken x.config (stored x y)) c.new.ensures.numbers c.new.ensures.words in
    c.in_ok-vet.ensures ∙ seen ∙ broken_same k h s t1 t2 m c.in_ok-header.ensures.rows c.in_ok-header.ensures.blocks first q.took q.gives (length ws) yes ws new refl w (b.small yes) ∙ sym o.0

pub returns-clause-left : goal.returns-clause-left
returns-clause-left g c =
    let k : Config = c.args.config in
    let ws : List ℕ = c.args.words.now in
    let s : Stream = g.R.Reader.means c.args.reader.now in
    let t1 : Stream = g.R.Reader.means c.read_header.new.reader in
    let h : Header = c.in_ok-header.header in
    let e : ◌≡◌ {A = Option Refusal} (headed s).refusal None = sym c.in_ok-header.ensures.refused in
    let need : c.words_needed-all.result ≡ words_for k s.front.bytes = words_here k h s.front.bytes c.words_needed-all.result c.words_needed-all.ensures c.in_ok-header.ensures.rows c.in_ok-header.ensures.blocks in
    let room : words_for k s.front.bytes ≤ length ws = omega (arith, need, c.if-words-all.false) in
    let first : Took header_fields s None t1 = header_taken s e t1 c.in_ok-header.ensures.left in
    let t2 : Stream = g.R.Reader.means c.read_top.new.reader in
    let m : Numbers = c.in_ok-numbers.numbers in
    let q = c.in_ok-numbers.ensures in
    let yes : suffice m (length ws) ≡ true =
    enough m c.words_needed-all.result (length ws) (needed_here k h t1.front.bytes m c.words_needed-all.result q.gives c.words_needed-all.ensures) c.if-words-all.false in
    let t3 : Stream = g.R.Reader.means c.read_body.new.reader in
    let new : List ℕ = c.read_body.new.words in
    let b = c.in_ok-read_body.ensures in
    let w : Wrote ws new 0 (level1_in m t2.front.bytes ++ blocks_in m (drop (blocks_behind m) t2.front.bytes)) (needed_of m) = body_wrote m t2.front.bytes ws new yes b.gives in
    let o = all_read k (length ws) s e room t3 (body_took k h s t1 t2 m c.in_ok-header.ensures.rows c.in_ok-header.ensures.blocks first q.took q.gives (length ws) yes None t3 b.took) in
    o.1

pub returns-clause-loads : goal.returns-clause-loads
returns-clause-loads g c =
    let k : Config = c.args.config in
    let ws : List ℕ = c.args.words.now in
    let s : Stream = g.R.Reader.means c.args.reader.now in
    let t1 : Stream = g.R.Reader.means c.read_header.new.reader in
    let h : Header = c.in_ok-header.header in
    let e : ◌≡◌ {A = Option Refusal} (headed s).refusal None = sym c.in_ok-header.ensures.refused in
    let need : c.words_needed-all.result ≡ words_for k s.front.bytes = words_here k h s.front.bytes c.words_needed-all.result c.words_needed-all.ensures c.in_ok-header.ensures.rows c.in_ok-header.ensures.blocks in
    let room : words_for k s.front.bytes ≤ length ws = omega (arith, need, c.if-words-all.false) in
    let first : Took header_fields s None t1 = header_taken s e t1 c.in_ok-header.ensures.left in
    let t2 : Stream = g.R.Reader.means c.read_top.new.reader in
    let m : Numbers = c.in_ok-numbers.numbers in
    let q = c.in_ok-numbers.ensures in
    let yes : suffice m (length ws) ≡ true =
    enough m c.words_needed-all.result (length ws) (needed_here k h t1.front.bytes m c.words_needed-all.result q.gives c.words_needed-all.ensures) c.if-words-all.false in
    let t3 : Stream = g.R.Reader.means c.read_body.new.reader in
    let new : List ℕ = c.read_body.new.words in
    let b = c.in_ok-read_body.ensures in
    let w : Wrote ws new 0 (level1_in m t2.front.bytes ++ blocks_in m (drop (blocks_behind m) t2.front.bytes)) (needed_of m) = body_wrote m t2.front.bytes ws new yes b.gives in
    loaded k h s t1 t2 m c.in_ok-header.ensures.rows c.in_ok-header.ensures.blocks first q.took q.gives (length ws) yes ws new refl w (b.small yes)

pub returns-clause-sound : goal.returns-clause-sound
returns-clause-sound g c =
    let k : Config = c.args.config in
    let ws : List ℕ = c.args.words.now in
    let s : Stream = g.R.Reader.means c.args.reader.now in
    let t1 : Stream = g.R.Reader.means c.read_header.new.reader in
    let h : Header = c.in_ok-header.header in
    let e : ◌≡◌ {A = Option Refusal} (headed s).refusal None = sym c.in_ok-header.ensures.refused in
    let need : c.words_needed-all.result ≡ words_for k s.front.bytes = words_here k h s.front.bytes c.words_needed-all.result c.words_needed-all.ensures c.in_ok-header.ensures.rows c.in_ok-header.ensures.blocks in
    let room : words_for k s.front.bytes ≤ length ws = omega (arith, need, c.if-words-all.false) in
    let first : Took header_fields s None t1 = header_taken s e t1 c.in_ok-header.ensures.left in
    let t2 : Stream = g.R.Reader.means c.read_top.new.reader in
    let m : Numbers = c.in_ok-numbers.numbers in
    let q = c.in_ok-numbers.ensures in
    let yes : suffice m (length ws) ≡ true =
    enough m c.words_needed-all.result (length ws) (needed_here k h t1.front.bytes m c.words_needed-all.result q.gives c.words_needed-all.ensures) c.if-words-all.false in
    let t3 : Stream = g.R.Reader.means c.read_body.new.reader in
    let new : List ℕ = c.read_body.new.words in
    let b = c.in_ok-read_body.ensures in
    let w : Wrote ws new 0 (level1_in m t2.front.bytes ++ blocks_in m (drop (blocks_behind m) t2.front.bytes)) (needed_of m) = body_wrote m t2.front.bytes ws new yes b.gives in
    let seen : broken c.new.result.numbers.now.config (stored c.new.result.numbers.now c.new.result.words.now) ≡ broken m.config (stored m new) =
    ap₂ (λ (x : Numbers) (y : List ℕ). broken x.config (stored x y)) c.new.ensures.numbers c.new.ensures.words in
    sound k h s t1 t2 m c.in_ok-header.ensures.rows c.in_ok-header.ensures.blocks first q.took q.gives (length ws) yes ws new refl w (b.small yes) (subst (λ (y : List ℕ). (t : ℕ) → get_or y t 0 < 2 ^ 64) c.new.ensures.words c.new.result.fits) (sym (c.in_ok-vet.ensures ∙ seen))
