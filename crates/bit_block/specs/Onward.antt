-- Going through the raised bits of a mask.
use Rattle.std.specs.Prelude.{◌≡◌, ℕ, ◌+◌, Some, None, Option}
use Rattle.bit_block.specs.Bit.{Least}
use Rattle.bit_block.specs.Raised.{raised}
use Rattle.bit_block.specs.declared.ones.Ones.{Ones}

-- the place behind what was found; where nothing was found, the same place
abbrev pub behind : ℕ → Option ℕ → ℕ
behind k None = k
behind k (Some found) = found + 1

-- what one step gives: the least raised bit from the place that was reached, and then the place behind it
pub record Onward (s : Ones) (r : Option ℕ) (t : Ones) : Type 0 where
  pub least : Least (raised s.mask) s.at r
  pub mask : t.mask ≡ s.mask
  pub reached : t.at ≡ behind s.at r
