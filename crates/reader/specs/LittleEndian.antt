-- Numbers as bytes, the least significant first.
use Rattle.std.specs.Prelude.{ℕ, zero, suc, ◌+◌, ◌*◌, ◌/◌, ◌%◌, List, [], ◌∷◌, ◌++◌, take, drop}

-- the k bytes of a number
unfoldable pub bytes : ℕ → ℕ → List ℕ
bytes zero x = []
bytes (suc k) x = x % 256 ∷ bytes k (x / 256)

-- the number that bytes are
unfoldable pub value : List ℕ → ℕ
value [] = 0
value (b ∷ bs) = b + 256 * value bs

-- numbers of k bytes each, one behind the other
unfoldable pub laid : ℕ → List ℕ → List ℕ
laid k [] = []
laid k (x ∷ xs) = bytes k x ++ laid k xs

-- the first c numbers of k bytes each
unfoldable pub numbers : ℕ → ℕ → List ℕ → List ℕ
numbers k zero xs = []
numbers k (suc c) xs = value (take k xs) ∷ numbers k c (drop k xs)
