-- What is summed and counted over the numbers below n, rising.
use Rattle.std.specs.Prelude.{ℕ, zero, suc, ◌+◌, Bool, cond}

-- the sum of f at the numbers below n
unfoldable pub total : (ℕ → ℕ) → ℕ → ℕ
total f zero = 0
total f (suc n) = total f n + f n

-- how many of the numbers below n pass the test f
unfoldable pub count : (ℕ → Bool) → ℕ → ℕ
count f n = total (λ t. cond (f t) 1 0) n
