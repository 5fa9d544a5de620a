-- Positions and their three indices: the order of positions is that of places.
use Rattle.std.proofs.Common.{◌≡◌, ℕ, ◌+◌, ◌*◌, ◌/◌, ◌%◌, ◌<◌, ◌≤◌, Bool, ◌⊎◌, Some, None, sym, ap, ◌∙◌, inl, inr, ⊎_elim, mul-le-mul_right, mul_assoc, add-mul, mul-pos, arith}
use native.Mathlib.Nat.{mul-add-mod_self_right}
use Rattle.std.proofs.lemmas.Nat.{div-add-mod', div-mul-add, mod-mul-add, mul-add-lt, mod_below}
use Rattle.std.proofs.lemmas.Bool.{cases_lt, cases_eq}
use Rattle.bit_block.specs.Bit.{Least}
use Rattle.bitset_interface.specs.Lex.{Before, UpTo, PlaceLeast}

-- the order of two numbers by their digits in base v
digit : (v t r : ℕ) → 0 < v → t < r → (t / v < r / v) ⊎ ((t / v ≡ r / v) × (t % v < r % v))
digit v t r p h =
    let et = div-add-mod' t v in
    let er = div-add-mod' r v in
    let mt = mod_below t v p in
    let mr = mod_below r v p in
    ⊎_elim inl
    (λ le. ⊎_elim
    (λ lt. absurd (let m = mul-le-mul_right v lt in omega (arith, m, add-mul (r / v) 1 v)))
    (λ ge. let e : t / v ≡ r / v = omega arith in inr (e, let m = ap (λ (x : ℕ). x * v) e in omega (arith, m)))
    (cases_lt (r / v) (t / v)))
    (cases_lt (t / v) (r / v))

module _ (w v : ℕ) (pw : 0 < w) (pv : 0 < v) where
  pub low : (t : ℕ) → t % (w * v) % v ≡ t % v
  low t =
      let e : t / (w * v) * w * v + t % (w * v) ≡ t = ap (λ (x : ℕ). x + t % (w * v)) (mul_assoc (t / (w * v)) w v) ∙ div-add-mod' t (w * v) in
      sym (mul-add-mod_self_right (t / (w * v) * w) v (t % (w * v))) ∙ ap (λ (x : ℕ). x % v) e

  pub ordered : (t r : ℕ) → t < r → Before (t / (w * v)) (t % (w * v) / v) (t % v) (r / (w * v)) (r % (w * v) / v) (r % v)
  ordered t r h =
      ⊎_elim inl
      (λ x. inr (
        x.0,
        ⊎_elim inl
            (λ y. inr (y.0, omega (arith, y.1, low t, low r)))
            (digit v (t % (w * v)) (r % (w * v)) pv x.1),
      ))
      (digit (w * v) t r (mul-pos pw pv) h)

  weaken : (i j k a b c : ℕ) → Before i j k a b c → UpTo i j k a b c
  weaken i j k a b c h = ⊎_elim inl (λ x. inr (x.0, ⊎_elim inl (λ y. inr (y.0, omega (arith, y.1))) x.1)) h

  same : (i j k a b c : ℕ) → i ≡ a → j ≡ b → k ≡ c → UpTo i j k a b c
  same i j k a b c p q r = inr (p, inr (q, omega arith))

  pub reaches : (t r : ℕ) → t ≤ r → UpTo (t / (w * v)) (t % (w * v) / v) (t % v) (r / (w * v)) (r % (w * v) / v) (r % v)
  reaches t r h =
      ⊎_elim
      (λ e. same (t / (w * v)) (t % (w * v) / v) (t % v) (r / (w * v)) (r % (w * v) / v) (r % v)
      (ap (λ (x : ℕ). x / (w * v)) e) (ap (λ (x : ℕ). x % (w * v) / v) e) (ap (λ (x : ℕ). x % v) e))
      (λ ne. weaken (t / (w * v)) (t % (w * v) / v) (t % v) (r / (w * v)) (r % (w * v) / v) (r % v) (ordered t r (omega (arith, ne))))
      (cases_eq t r)

  clash : (i j k a b c : ℕ) → UpTo i j k a b c → Before a b c i j k → ⊥
  clash i j k a b c (inl x) (inl y) = omega arith
  clash i j k a b c (inl x) (inr y) = omega (arith, y.0)
  clash i j k a b c (inr x) (inl y) = omega (arith, x.0)
  clash i j k a b c (inr (p, inl x)) (inr (q, inl y)) = omega arith
  clash i j k a b c (inr (p, inl x)) (inr (q, inr (s, y))) = omega arith
  clash i j k a b c (inr (p, inr (s, x))) (inr (q, inl y)) = omega arith
  clash i j k a b c (inr (p, inr (s, x))) (inr (q, inr (u, y))) = omega arith

  module _ (i j k : ℕ) (hj : j < w) (hk : k < v) where
    abbrev pub at : ℕ
    at = i * (w * v) + (j * v + k)

    fits : j * v + k < w * v
    fits = omega (arith, mul-add-lt j v k w hj hk)

    pub first : at / (w * v) ≡ i
    first = div-mul-add i (w * v) (j * v + k) fits

    rest : at % (w * v) ≡ j * v + k
    rest = mod-mul-add i (w * v) (j * v + k) fits

    pub second : at % (w * v) / v ≡ j
    second = ap (λ (x : ℕ). x / v) rest ∙ div-mul-add j v k hk

    pub third : at % v ≡ k
    third = sym (low at) ∙ (ap (λ (x : ℕ). x % v) rest ∙ mod-mul-add j v k hk)

    -- the position of the least place is the least position
    pub least_at : (d : ℕ → ℕ → ℕ → Bool) (p : ℕ) → PlaceLeast d (p / (w * v)) (p % (w * v) / v) (p % v) (Some (i, j, k))
        → Least (λ t. d (t / (w * v)) (t % (w * v) / v) (t % v)) p (Some at)
    least_at d p h = (
      ⊎_elim
          (λ lt. absurd (clash (p / (w * v)) (p % (w * v) / v) (p % v) i j k h.0
          (simp (first, second, third) at (ordered at p lt))))
          (λ le. le)
          (cases_lt at p),
      ap (λ (x : ℕ). d x (at % (w * v) / v) (at % v)) first ∙ (ap (λ (x : ℕ). d i x (at % v)) second ∙ (ap (d i j) third ∙ h.1)),
      λ t l u. h.2 (t / (w * v)) (t % (w * v) / v) (t % v) (reaches p t l) (simp (first, second, third) at (ordered t at u)),
    )

  pub least_none : (d : ℕ → ℕ → ℕ → Bool) (p : ℕ) → PlaceLeast d (p / (w * v)) (p % (w * v) / v) (p % v) None
      → Least (λ t. d (t / (w * v)) (t % (w * v) / v) (t % v)) p None
  least_none d p h t l = h (t / (w * v)) (t % (w * v) / v) (t % v) (reaches p t l)
