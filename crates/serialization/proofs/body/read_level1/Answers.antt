use Rattle.std.proofs.Common.{◌≡◌, ℕ, ◌*◌, List, [], ◌∷◌, length, take, Some, None, subst, rules}
use Rattle.packing.specs.declared.Numbers.{Numbers}
use Rattle.reader.specs.Fields.{Run, Took, faulted, many}
use Rattle.reader.specs.Streams.{Stream}
use Rattle.reader.proofs.Fieldings.{took_then, took_stop}
use Rattle.serialization.specs.Bodies.{masks_in}
use Rattle.serialization.specs.Layout.{size, words}
use Rattle.serialization.proofs.BodyWords.{gives_along, level1_masks, level1_starts, behind_level1, level1_written, small_starts}
use Rattle.serialization.proofs.body.read_level1.Goals as goal

-- the two parts
abbrev masks-of : Numbers → List Run
masks-of m = many m.n (size m.config.level1) ∷ []

abbrev starts-of : Numbers → List Run
starts-of m = many (m.n * words m.config.level1) 2 ∷ []

pub returns-in_err-read_masks-clause-took : goal.returns-in_err-read_masks-clause-took
returns-in_err-read_masks-clause-took g c =
    let m : Numbers = c.args.numbers in
    let s : Stream = g.R.Reader.means c.args.reader.now in
    let t : Stream = g.R.Reader.means c.read_masks.new.reader in
    let e = c.in_err-read_masks.field-0.0 in
    let n : masks_in m.config.level1 (length (take c.level1_len-len.result c.args.words.now)) ≡ m.n = level1_masks m c.level1_len-len.result c.args.words.now c.level1_len-len.ensures c.requires in
    let h = took_stop (masks-of m) (starts-of m) e s t (subst (λ (k : ℕ). Took (many k (size m.config.level1) ∷ []) s (Some e) t) n c.in_err-read_masks.ensures.took) in
    search rules

pub returns-clause-took : goal.returns-clause-took
returns-clause-took g c =
    let m : Numbers = c.args.numbers in
    let s : Stream = g.R.Reader.means c.args.reader.now in
    let t : Stream = g.R.Reader.means c.read_masks.new.reader in
    let u : Stream = g.R.Reader.means c.read_start_words.new.reader in
    let o = faulted c.read_start_words.result in
    let n = level1_starts m c.level1_len-len.result c.data_start.result c.args.words.now c.read_masks.new.out c.level1_len-len.ensures c.data_start.ensures c.requires c.read_masks.auto.out in
    took_then (masks-of m) (starts-of m) o s t u
    (subst (λ (k : ℕ). Took (many k (size m.config.level1) ∷ []) s None t) (level1_masks m c.level1_len-len.result c.args.words.now c.level1_len-len.ensures c.requires) c.in_ok-read_masks.ensures.took)
    (subst (λ (k : ℕ). Took (many k 2 ∷ []) t o u) n c.read_start_words.ensures.took)

pub returns-clause-gives : goal.returns-clause-gives
returns-clause-gives g c =
    let m : Numbers = c.args.numbers in
    let L : ℕ = c.level1_len-len.result in
    let ws : List ℕ = c.args.words.now in
    let rows : List ℕ = c.read_masks.new.out in
    let s : Stream = g.R.Reader.means c.args.reader.now in
    let t : Stream = g.R.Reader.means c.read_masks.new.reader in
    let p : Took (masks-of m) s None t =
    subst (λ (k : ℕ). Took (many k (size m.config.level1) ∷ []) s None t) (level1_masks m L ws c.level1_len-len.ensures c.requires) c.in_ok-read_masks.ensures.took in
    gives_along c.read_start_words.result _ _
    (λ x h. level1_written m L c.data_start.result s.front.bytes t.front.bytes ws rows c.read_start_words.new.out c.level1_len-len.ensures c.data_start.ensures c.requires c.in_ok-read_masks.ensures.gives (behind_level1 m s t p) h)
    c.read_start_words.ensures.gives

pub returns-clause-small : goal.returns-clause-small
returns-clause-small g c =
    let m : Numbers = c.args.numbers in
    let L : ℕ = c.level1_len-len.result in
    let ws : List ℕ = c.args.words.now in
    let s : Stream = g.R.Reader.means c.args.reader.now in
    let t : Stream = g.R.Reader.means c.read_masks.new.reader in
    let p : Took (masks-of m) s None t =
    subst (λ (k : ℕ). Took (many k (size m.config.level1) ∷ []) s None t) (level1_masks m L ws c.level1_len-len.ensures c.requires) c.in_ok-read_masks.ensures.took in
    let n = level1_starts m L c.data_start.result ws c.read_masks.new.out c.level1_len-len.ensures c.data_start.ensures c.requires c.read_masks.auto.out in
    gives_along c.read_start_words.result _ _ (λ x h. small_starts m _ s.front.bytes t.front.bytes n (behind_level1 m s t p) h) c.read_start_words.ensures.small
