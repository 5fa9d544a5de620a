-- Bit k of a number, and the least place at or above k at which a test holds.
use Rattle.std.specs.Prelude.{◌≡◌, ℕ, ◌/◌, ◌%◌, ◌^◌, ◌<◌, ◌≤◌, Bool, true, false, not, Some, None, Option, ◌==◌}

-- whether bit k of n is raised; bit 0 is the least significant
abbrev pub bit_of : ℕ → ℕ → Bool
bit_of n k = n / 2 ^ k % 2 == 1

-- just one of the two
abbrev pub exclusive : Bool → Bool → Bool
exclusive true b = not b
exclusive false b = b

-- r is the least place at or above k at which f holds, or None where there is none
abbrev pub Least : (ℕ → Bool) → ℕ → Option ℕ → Type 0
Least f k None = (t : ℕ) → k ≤ t → f t ≡ false
Least f k (Some r) = (k ≤ r) × (f r ≡ true) × ((t : ℕ) → k ≤ t → t < r → f t ≡ false)
