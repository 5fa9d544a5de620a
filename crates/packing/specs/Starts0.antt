-- The starts of the words of a level-0 mask.
use Rattle.std.specs.Prelude.{ℕ, ◌*◌, Bool, cond, nat_lt}
use Rattle.bit_block.specs.Ranges.{count}

-- of a mask f of so many bits: how many bits are raised in the words before word q; 0 past the last word
abbrev pub start0 : (ℕ → Bool) → ℕ → ℕ → ℕ
start0 f width q = cond (nat_lt (q * 64) width) (count f (q * 64)) 0
