use Rattle.std.proofs.Common.{◌≡◌, ◌≤◌}
use Rattle.packing.specs.Packed.{data_to}
use Rattle.packing.specs.Wrote.{Wrote}
use Rattle.immutable_bitset.proofs.fill.put_data.Given as goal

-- the blocks of the rows before the place that was reached are written
abbrev pub invariant-loop-i : goal.invariant-loop-i
invariant-loop-i g l = record {
  mask : l.i-iterator.mask ≡ l.found.level0;
  near : l.i-iterator.at ≤ 256;
  wrote : Wrote l.initial.words l.words l.at (data_to l.k (g.S.LevelMasks.means l.s) l.i-iterator.at) l.next;
}
