-- What is under a test that fails.
use Rattle.std.proofs.Common.{◌≡◌, Bool, true, false, ⊎_elim}
use Rattle.std.proofs.lemmas.Bool.{cases_Bool, both_ways}

-- a Bool that implies one that is false is false
pub off : (p q : Bool) → (p ≡ true → q ≡ true) → q ≡ false → p ≡ false
off p q f e = ⊎_elim (λ t. absurd (both_ways q e (f t))) (λ t. t) (cases_Bool p)
