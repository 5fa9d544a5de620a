use Rattle.std.proofs.Common.{◌≡◌, ℕ}
use Rattle.bit_block.specs.Raised.{raised}
use Rattle.packing.proofs.Measuring.{Rowed}
use Rattle.packing.proofs.measure.Given as goal

-- the rows before the place that was reached in the level-0 mask are found
abbrev pub invariant-loop-i : goal.invariant-loop-i
invariant-loop-i g l = record {
  mask : (t : ℕ) → raised l.i-iterator.mask t ≡ (g.S.LevelMasks.means l.s).up0 t;
  found : Rowed (g.S.LevelMasks.means l.s) l.i-iterator.at l.level0 l.rows l.d;
}
