use Rattle.std.proofs.Common.{◌*◌, ◌/◌, ◌%◌, get_or, sym, ◌∙◌, arith, rules}
use Rattle.bit_block.specs.Bit.{bit_of}
use Rattle.bit_block.specs.Raised.{raised}
use Rattle.bit_block.proofs.Counting.{count_le}
use Rattle.bit_block.proofs.Ranks.{ones_taken, rank_at, rank_past}
use Rattle.bit_block.proofs.mask.Mask.rank.Goals as goal

pub returns-then-t-ge256 : goal.returns-then-t-ge256
returns-then-t-ge256 c = c.count_ones.ensures ∙ sym (rank_past c.args.self c.args.t (search rules) (omega arith))

pub overflow_add-result : goal.overflow_add-result
overflow_add-result c =
    omega (
      arith,
      c.ones_in.ensures,
      ones_taken c.args.self (search rules) (λ i. search rules) (c.args.t / 64) (omega arith),
      count_le (raised c.args.self) (c.args.t / 64 * 64),
      c.low_ones.ensures,
      count_le (bit_of (get_or c.args.self.words (c.args.t / 64) 0)) (c.args.t % 64),
    )

pub returns : goal.returns
returns c =
    omega (
      arith,
      c.ones_in.ensures,
      ones_taken c.args.self (search rules) (λ i. search rules) (c.args.t / 64) (omega arith),
      c.low_ones.ensures,
      rank_at c.args.self c.args.t,
    )
