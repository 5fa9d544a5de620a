use Rattle.std.proofs.Common.{ℕ, ◌*◌, Bool, ◌&&◌, sym, ap, ◌∙◌, arith}
use Rattle.bit_block.specs.Raised.{raised}
use Rattle.bit_block.specs.Ranges.{count}
use Rattle.bit_block.proofs.Places.{sized}
use Rattle.packing.specs.Meaning.{k1of, held_at, bit_from}
use Rattle.packing.proofs.Lookups.{not_row, row_fits, len_fits}
use Rattle.immutable_bitset.proofs.Places.{low}
use Rattle.immutable_bitset.proofs.lookup.Filled.level1_mask.Goals as goal

pub returns-then-not-get_bit : goal.returns-then-not-get_bit
returns-then-not-get_bit c t = c.zero.ensures t ∙ sym (not_row _ c.args.self.now.words.now c.args.i t (sym c.if-not-get_bit.ensures))

pub word_place-at-requires-clause-wide : goal.word_place-at-requires-clause-wide
word_place-at-requires-clause-wide c = omega (arith, (sized c.args.self.now.numbers.now.config.level1).least)

pub read_mask-requires : goal.read_mask-requires
unfolding k1of
read_mask-requires c =
    let m = c.args.self.now.numbers.now in
    let ws = c.args.self.now.words.now in
    let s = c.args.self.now.sound in
    let up = sym c.if-not-get_bit.ensures in
    omega (arith, c.word_place-at.ensures.is, row_fits m ws s.rows s.counts c.args.i (low m ws s c.args.i up) up, len_fits m ws s.rows s.counts)

pub returns : goal.returns
unfolding held_at k1of
returns c t =
    let m = c.args.self.now.numbers.now in
    let ws = c.args.self.now.words.now in
    c.read_mask.ensures t
    ∙ ap (λ (x : ℕ). bit_from ws x (k1of m) t) (omega (arith, c.word_place-at.ensures.is))
    ∙ ap (λ (b : Bool). b && bit_from ws (count (raised m.level0) c.args.i * k1of m) (k1of m) t) c.if-not-get_bit.ensures
