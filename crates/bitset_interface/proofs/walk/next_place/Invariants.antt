use Rattle.std.proofs.Common.{◌≡◌, ℕ, ◌<◌, false}
use Rattle.bit_block.specs.Raised.{raised}
use Rattle.bitset_interface.proofs.walk.next_place.Given as goal

-- nothing is held in the rows after i and before the one that was reached
abbrev pub invariant-loop-found : goal.invariant-loop-found
invariant-loop-found g l =
    (l.i < l.found-iterator.at)
    × ((t : ℕ) → raised l.found-iterator.mask t ≡ (g.S.LevelMasks.means l.s).up0 t)
    × ((a b c : ℕ) → l.i < a → a < l.found-iterator.at → (g.S.LevelMasks.means l.s).up2 a b c ≡ false)
