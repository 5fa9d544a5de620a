-- The least place at which a predicate holds, from further down.
use Rattle.std.proofs.Common.{◌≡◌, ℕ, ◌<◌, ◌≤◌, Bool, false, Some, None, Option, sym, ◌∙◌, ⊎_elim, arith}
use Rattle.std.proofs.lemmas.Bool.{cases_lt}
use Rattle.bit_block.specs.Bit.{Least}

-- where nothing holds from k up to k', the least from k' is the least from k
pub least_widen : (f : ℕ → Bool) (k k' : ℕ) (r : Option ℕ) → k ≤ k' → ((t : ℕ) → k ≤ t → t < k' → f t ≡ false) → Least f k' r → Least f k r
least_widen f k k' None le none h = λ t l. ⊎_elim (λ lt. none t l lt) (λ ge. h t ge) (cases_lt t k')
least_widen f k k' (Some r) le none h =
    (omega (arith, h.0), h.1, λ t l u. ⊎_elim (λ lt. none t l lt) (λ ge. h.2 t ge u) (cases_lt t k'))

-- tests that agree have the same least place
pub least-same : (f g : ℕ → Bool) → ((t : ℕ) → f t ≡ g t) → (k : ℕ) (r : Option ℕ) → Least f k r → Least g k r
least-same f g e k None h = λ t l. sym (e t) ∙ h t l
least-same f g e k (Some r) h = (h.0, sym (e r) ∙ h.1, λ t l u. sym (e t) ∙ h.2 t l u)
