-- Testing a rule from place 0 up; whether a mask raises a bit, from its words.
use Rattle.std.proofs.Common.{◌≡◌, ℕ, zero, suc, ◌+◌, ◌*◌, ◌/◌, ◌%◌, ◌^◌, ◌<◌, Bool, true, false, cond, List, get_or, Some, None, Option, ap, ◌∙◌, subst, ap₂, ⊎_elim, arith, length}
use lib.Count.{count_trailing_zeros, ones, ones-le}
use Rattle.std.proofs.lemmas.Nat.{div-mul-add, mod-mul-add}
use Rattle.std.proofs.lemmas.Bool.{cases_eq, cases_lt, lt-ltb, le-ltb}
use Rattle.std.proofs.lemmas.List.{get_or_past}
use Rattle.bit_block.specs.Bit.{bit_of}
use Rattle.bit_block.proofs.Bits.{bit_zero, Lowest, lowest}
use Rattle.bit_block.proofs.Counting.{count-zero}
use Rattle.packing.specs.Packed.{before}
use Rattle.packing.proofs.Starts.{before_more, before-past}
use Rattle.packing.proofs.Selects.{rank_below}
use Rattle.vetting.specs.Rules.{bit_in, raises_one, or_else, first_not}
use Rattle.vetting.proofs.Broken.{all_pass}

-- the first place that fails, after those that pass
pub first_at : (f : ℕ → Bool) (q n : ℕ) → ((t : ℕ) → t < q → f t ≡ true) → f q ≡ false → q < n → first_not f n ≡ Some q
unfolding first_not
first_at f q zero h p l = absurd (omega arith)
first_at f q (suc n) h p l =
    ⊎_elim
    (λ s. subst (λ (m : ℕ). or_else (first_not f m) (cond (f m) None (Some m)) ≡ Some q) s (ap₂ or_else (all_pass f q h) (ap {B = Option ℕ} (λ (b : Bool). cond b None (Some q)) p)))
    (λ ne. ap (λ (o : Option ℕ). or_else o (cond (f n) None (Some n))) (first_at f q n h p (omega arith)))
    (cases_eq q n)

-- where bit t of mask i stands: its word, and its place in it
word_of : (i k t : ℕ) → ((i * (k * 64) + t) / 64 ≡ i * k + t / 64) × ((i * (k * 64) + t) % 64 ≡ t % 64)
word_of i k t = (omega arith, omega arith)

-- a mask of k words, one of which is not 0, raises a bit
pub raises_some : (ws : List ℕ) (k i q : ℕ) → q < k → get_or ws (i * k + q) 0 < 2 ^ 64 → (get_or ws (i * k + q) 0 ≡ 0 → ⊥) → raises_one ws (k * 64) i ≡ true
raises_some ws k i q l fits ne =
    let x : ℕ = get_or ws (i * k + q) 0 in
    let j : ℕ = count_trailing_zeros 64 x in
    let b : Lowest x j 64 = lowest 64 x (omega (arith, ne)) fits in
    let small : j < 64 = b.within in
    let e = word_of i k (q * 64 + j) in
    let at : (q * 64 + j) / 64 ≡ q = div-mul-add q 64 j small in
    let r : (q * 64 + j) % 64 ≡ j = mod-mul-add q 64 j small in
    lt-ltb 0 _ (omega (
      arith,
      rank_below (λ t. bit_in ws (i * (k * 64) + t)) (q * 64 + j) (k * 64) (omega arith)
          (ap₂ (λ (y u : ℕ). bit_of (get_or ws y 0) u) (e.0 ∙ ap (λ (z : ℕ). i * k + z) at) (e.1 ∙ r) ∙ b.here),
    ))

-- a mask of k words that are 0 raises none
pub raises_none : (ws : List ℕ) (k i : ℕ) → ((q : ℕ) → q < k → get_or ws (i * k + q) 0 ≡ 0) → raises_one ws (k * 64) i ≡ false
raises_none ws k i z =
    le-ltb 0 _ (omega (
      arith,
      count-zero (λ t. bit_in ws (i * (k * 64) + t)) (k * 64) (λ t l.
          let e = word_of i k t in
          ap₂ (λ (x u : ℕ). bit_of (get_or ws x 0) u) e.0 e.1 ∙ ap (λ (x : ℕ). bit_of x (t % 64)) (z (t / 64) (omega arith)) ∙ bit_zero (t % 64)),
    ))

-- one more word, whatever the length: past the last it is 0
pub before_next : (xs : List ℕ) (m : ℕ) → before xs (m + 1) ≡ before xs m + ones (get_or xs m 0)
before_next xs m =
    ⊎_elim (λ l. before_more xs m l)
    (λ l. omega (arith, before-past xs m l, ap ones (get_or_past xs m 0 l), ones-le 0 0 (omega arith)))
    (cases_lt m (length xs))
