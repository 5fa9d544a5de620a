use Rattle.std.proofs.Common.{◌≡◌, ℕ, ◌+◌, ◌*◌, ◌≤◌, Bool}
use Rattle.bit_block.specs.Raised.{raised}
use Rattle.bit_block.specs.Ranges.{count}
use Rattle.packing.specs.Packed.{chosen}
use Rattle.packing.specs.Wrote.{Wrote}
use Rattle.immutable_bitset.specs.Fillings.{HaveBits}
use Rattle.immutable_bitset.proofs.fill.put_masks.Given as goal

-- the masks before the place that was reached in `which` are written
abbrev pub invariant-loop-i : goal.invariant-loop-i
invariant-loop-i g l = record {
  mask : l.i-iterator.mask ≡ l.fn.which;
  near : l.i-iterator.at ≤ 256;
  place : l.next ≡ l.at + count (raised l.fn.which) l.i-iterator.at * l.k;
  wrote : (bits : ℕ → ℕ → Bool) → HaveBits (raised l.fn.which) (goal.F-post g l.mask_of) bits
      → Wrote l.initial.words l.words l.at (chosen l.k (raised l.fn.which) bits l.i-iterator.at) l.next;
}
