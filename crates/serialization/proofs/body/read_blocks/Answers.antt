use Rattle.std.proofs.Common.{◌≡◌, ℕ, List, [], ◌∷◌, drop, Some, None, ap, ◌∙◌, subst, arith, rules}
use Rattle.packing.specs.declared.Numbers.{Numbers}
use Rattle.reader.specs.Fields.{Run, Took, faulted, one, many, size_of}
use Rattle.reader.specs.Streams.{Stream}
use Rattle.reader.proofs.Fieldings.{took_then, took_stop, size_of-one}
use Rattle.serialization.specs.Layout.{size, padding, starts1_end}
use Rattle.serialization.proofs.BodyWords.{gives_along, block_masks, blocks_written}
use Rattle.serialization.proofs.body.read_blocks.Goals as goal

-- the two parts
abbrev pad-of : Numbers → List Run
pad-of m = one (padding (size m.config.«data») (starts1_end m.config m.n)) ∷ []

abbrev blocks-of : Numbers → List Run
blocks-of m = many m.d (size m.config.«data») ∷ []

pub returns-in_err-skip_padding-clause-took : goal.returns-in_err-skip_padding-clause-took
returns-in_err-skip_padding-clause-took g c =
    let m : Numbers = c.args.numbers in
    let s : Stream = g.R.Reader.means c.args.reader.now in
    let t : Stream = g.R.Reader.means c.skip_padding.new.reader in
    let e = c.in_err-skip_padding.field-0.0 in
    let h = took_stop (pad-of m) (blocks-of m) e s t (subst (λ (k : ℕ). Took (one (padding (size m.config.«data») k) ∷ []) s (Some e) t) c.new-offsets.ensures.starts1_end c.in_err-skip_padding.ensures) in
    search rules

pub returns-clause-took : goal.returns-clause-took
returns-clause-took g c =
    let m : Numbers = c.args.numbers in
    let s : Stream = g.R.Reader.means c.args.reader.now in
    let t : Stream = g.R.Reader.means c.skip_padding.new.reader in
    let u : Stream = g.R.Reader.means c.read_masks.new.reader in
    let o = faulted c.read_masks.result in
    took_then (pad-of m) (blocks-of m) o s t u
    (subst (λ (k : ℕ). Took (one (padding (size m.config.«data») k) ∷ []) s None t) c.new-offsets.ensures.starts1_end c.in_ok-skip_padding.ensures)
    (subst (λ (k : ℕ). Took (many k (size m.config.«data») ∷ []) t o u) (block_masks m c.data_start-start.result c.data_words.result c.args.words.now c.data_start-start.ensures c.data_words.ensures c.requires) c.read_masks.ensures.took)

pub returns-clause-gives : goal.returns-clause-gives
returns-clause-gives g c =
    let m : Numbers = c.args.numbers in
    let s : Stream = g.R.Reader.means c.args.reader.now in
    let t : Stream = g.R.Reader.means c.skip_padding.new.reader in
    let pad : ℕ = padding (size m.config.«data») (starts1_end m.config m.n) in
    let p : Took (pad-of m) s None t = subst (λ (k : ℕ). Took (one (padding (size m.config.«data») k) ∷ []) s None t) c.new-offsets.ensures.starts1_end c.in_ok-skip_padding.ensures in
    let z : size_of (pad-of m) ≡ pad = omega (arith, size_of-one (one pad)) in
    let y : t.front.bytes ≡ drop pad s.front.bytes = ap (λ (x : Stream). x.front.bytes) p.1 ∙ ap (λ (n : ℕ). drop n s.front.bytes) z in
    gives_along c.read_masks.result _ _
    (λ x h. blocks_written m c.data_start-start.result c.data_words.result t.front.bytes (drop pad s.front.bytes) c.args.words.now c.read_masks.new.out c.data_start-start.ensures c.data_words.ensures c.requires y h)
    c.read_masks.ensures.gives
