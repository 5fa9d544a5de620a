use Rattle.std.proofs.Common.{◌*◌, arith}
use Rattle.bit_block.specs.Raised.{raised}
use Rattle.bit_block.proofs.Counting.{count_le}
use Rattle.bit_block.proofs.Places.{sized}
use Rattle.packing.proofs.level0_start.Goals as goal

pub overflow_cast-result : goal.overflow_cast-result
overflow_cast-result c = omega (arith, c.rank.ensures, c.bits.ensures, count_le (raised c.args.level0) (c.args.q * 64), (sized c.args.width).most)
