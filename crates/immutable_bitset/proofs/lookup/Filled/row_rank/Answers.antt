use Rattle.std.proofs.Common.{◌≡◌, ℕ, ◌*◌, ◌/◌, ◌%◌, true, ltb, get_or, ◌∙◌, arith}
use Rattle.std.proofs.lemmas.Bool.{cond-true, lt-ltb}
use Rattle.bit_block.specs.Bit.{bit_of}
use Rattle.bit_block.specs.Raised.{raised}
use Rattle.bit_block.specs.Ranges.{count}
use Rattle.bit_block.specs.Widths.{bits}
use Rattle.bit_block.proofs.Counting.{count_le}
use Rattle.bit_block.proofs.Places.{sized}
use Rattle.bit_block.proofs.Ranks.{rank_at}
use Rattle.packing.specs.declared.Numbers.{Numbers}
use Rattle.packing.specs.Meaning.{Wide, Starts0}
use Rattle.immutable_bitset.proofs.lookup.Filled.row_rank.Goals as goal

-- the stored start of the word of a raised bit
start_is : (m : Numbers) → Wide m → Starts0 m → (i : ℕ) → raised m.level0 i ≡ true → get_or m.starts (i / 64) 0 ≡ count (raised m.level0) (i / 64 * 64)
start_is m wide starts i up =
    starts (i / 64)
    ∙ cond-true (ltb (i / 64 * 64) (bits m.config.level0)) (count (raised m.level0) (i / 64 * 64)) 0 (lt-ltb (i / 64 * 64) (bits m.config.level0) (omega (arith, wide i up)))

pub overflow_add-result : goal.overflow_add-result
overflow_add-result c =
    let m = c.args.self.now.numbers.now in
    omega (
      arith,
      start_is m c.args.self.now.sound.wide c.args.self.now.sound.starts0 c.args.i c.requires,
      count_le (raised m.level0) (c.args.i / 64 * 64),
      c.args.self.now.sound.wide c.args.i c.requires,
      (sized m.config.level0).most,
      c.low_ones.ensures,
      count_le (bit_of (get_or m.level0.words (c.args.i / 64) 0)) (c.args.i % 64),
    )

pub returns : goal.returns
returns c =
    let m = c.args.self.now.numbers.now in
    omega (arith, start_is m c.args.self.now.sound.wide c.args.self.now.sound.starts0 c.args.i c.requires, c.low_ones.ensures, rank_at m.level0 c.args.i)
