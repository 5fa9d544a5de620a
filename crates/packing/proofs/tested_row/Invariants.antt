use Rattle.std.proofs.Common.{◌≡◌, ℕ}
use Rattle.bit_block.specs.Raised.{raised}
use Rattle.packing.specs.Packed.{held}
use Rattle.packing.proofs.Walks.{UpTo}
use Rattle.packing.proofs.tested_row.Given as goal

-- the blocks before the place that was reached in the row's mask are tested
abbrev pub invariant-loop-j : goal.invariant-loop-j
invariant-loop-j g l = record {
  mask : (t : ℕ) → raised l.j-iterator.mask t ≡ (g.S.LevelMasks.means l.s).up1 l.i t;
  tested : UpTo (held (g.S.LevelMasks.means l.s) l.i) l.j-iterator.at (raised l.row);
}
