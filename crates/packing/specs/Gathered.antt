-- Lists that are gathered over the numbers below n, rising; numbers and words made of bits.
use Rattle.std.specs.Prelude.{ℕ, zero, suc, ◌+◌, ◌*◌, ◌^◌, Bool, cond, List, [], ◌∷◌, ◌++◌}

-- g 0, g 1 and so on up to g (n - 1), one behind the other
unfoldable pub gather : {X : Type 0} → (ℕ → List X) → ℕ → List X
gather g zero = []
gather g (suc n) = gather g n ++ g n

-- the number whose bits below k are f
unfoldable pub number : (ℕ → Bool) → ℕ → ℕ
number f zero = 0
number f (suc k) = number f k + cond (f k) (2 ^ k) 0

-- the first k words of 64 bits of f
unfoldable pub words_of : ℕ → (ℕ → Bool) → List ℕ
words_of k f = gather (λ q. number (λ t. f (q * 64 + t)) 64 ∷ []) k
