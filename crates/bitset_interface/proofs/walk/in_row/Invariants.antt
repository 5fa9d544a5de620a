use Rattle.std.proofs.Common.{◌≡◌, ℕ, ◌<◌, ◌≤◌, false}
use Rattle.bit_block.specs.Raised.{raised}
use Rattle.bitset_interface.proofs.walk.in_row.Given as goal

-- nothing is held from block `from` to the place that was reached in the row's mask
abbrev pub invariant-loop-found : goal.invariant-loop-found
invariant-loop-found g l =
    (l.from ≤ l.found-iterator.at)
    × ((t : ℕ) → raised l.found-iterator.mask t ≡ (g.S.LevelMasks.means l.s).up1 l.i t)
    × ((b c : ℕ) → l.from ≤ b → b < l.found-iterator.at → (g.S.LevelMasks.means l.s).up2 l.i b c ≡ false)
