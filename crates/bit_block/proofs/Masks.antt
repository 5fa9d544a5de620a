-- Bits of masks: operations word by word, and the least raised bit.
use Rattle.std.proofs.Common.{◌≡◌, ℕ, zero, suc, ◌+◌, ◌-◌, ◌*◌, ◌/◌, ◌%◌, ◌^◌, ◌<◌, ◌≤◌, Bool, true, false, List, length, get_or, Some, sym, ap, ◌∙◌, subst, ap₂, ⊎_elim, add-zero, div-one, arith}
use lib.Count.{count_trailing_zeros}
use Rattle.std.proofs.lemmas.Nat.{mod_below, div-mul-add, mod-mul-add, shr_le}
use Rattle.std.proofs.lemmas.List.{get_or_past}
use Rattle.std.proofs.lemmas.Bool.{both_ways, cases_lt}
use Rattle.bit_block.specs.Bit.{bit_of, Least}
use Rattle.bit_block.specs.Raised.{raised}
use Rattle.bit_block.specs.declared.mask.Mask.{Mask}
use Rattle.bit_block.proofs.Bits.{bit_zero, bit_past, bit_of-shr, lowest, Lowest}

past : (x : List ℕ) (q k : ℕ) → length x ≡ 4 → 4 ≤ q → bit_of (get_or x q 0) k ≡ false
past x q k l h = ap (λ (n : ℕ). bit_of n k) (get_or_past x q 0 (omega arith)) ∙ bit_zero k

-- where each word of r is made of the words of x and y, what holds of each word's bits holds of the mask's
module _ (op : ℕ → ℕ → ℕ) (bop : Bool → Bool → Bool)
    (law : (a b k : ℕ) → b < 2 ^ 64 → k < 64 → bit_of (op a b) k ≡ bop (bit_of a k) (bit_of b k))
    (none : bop false false ≡ false)
    (x y r : List ℕ) (lx : length x ≡ 4) (ly : length y ≡ 4) (lr : length r ≡ 4) (fy : (i : ℕ) → get_or y i 0 < 2 ^ 64)
    (is : (q : ℕ) → q < 4 → get_or r q 0 ≡ op (get_or x q 0) (get_or y q 0)) where
  words : (q k : ℕ) → k < 64 → bit_of (get_or r q 0) k ≡ bop (bit_of (get_or x q 0) k) (bit_of (get_or y q 0) k)
  words q k h =
      ⊎_elim
      (λ lt. ap (λ (n : ℕ). bit_of n k) (is q lt) ∙ law (get_or x q 0) (get_or y q 0) k (fy q) h)
      (λ ge. past r q k lr ge ∙ (sym none ∙ sym (ap₂ bop (past x q k lx ge) (past y q k ly ge))))
      (cases_lt q 4)

  pub pointwise : (t : ℕ) → raised (record { words = r }) t ≡ bop (raised (record { words = x }) t) (raised (record { words = y }) t)
  unfolding raised
  pointwise t = words (t / 64) (t % 64) (mod_below t 64 (omega arith))

-- four words of zero
pub zeros : (x : List ℕ) → length x ≡ 4 → get_or x 0 0 ≡ 0 → get_or x 1 0 ≡ 0 → get_or x 2 0 ≡ 0 → get_or x 3 0 ≡ 0 → (q : ℕ) → get_or x q 0 ≡ 0
zeros x l a b c d zero = a
zeros x l a b c d (suc zero) = b
zeros x l a b c d (suc (suc zero)) = c
zeros x l a b c d (suc (suc (suc zero))) = d
zeros x l a b c d (suc (suc (suc (suc n)))) = get_or_past x (suc (suc (suc (suc n)))) 0 (omega arith)

-- bit j of word q
pub raised_at : (m : Mask) (q j : ℕ) → j < 64 → raised m (q * 64 + j) ≡ bit_of (get_or m.words q 0) j
unfolding raised
raised_at m q j h = rw (div-mul-add q 64 j h, mod-mul-add q 64 j h)

-- a bit of a word of zeros
pub raised-zero : (m : Mask) (t : ℕ) → get_or m.words (t / 64) 0 ≡ 0 → raised m t ≡ false
unfolding raised
raised-zero m t e = ap (λ (n : ℕ). bit_of n (t % 64)) e ∙ bit_zero (t % 64)

pub raised-past : (m : Mask) (t : ℕ) → length m.words ≡ 4 → 256 ≤ t → raised m t ≡ false
raised-past m t l h = raised-zero m t (get_or_past m.words (t / 64) 0 (omega arith))

-- so a raised bit is one of 256
pub raised_below : (m : Mask) (t : ℕ) → length m.words ≡ 4 → raised m t ≡ true → t < 256
raised_below m t l e = ⊎_elim (λ lt. lt) (λ ge. absurd (both_ways (raised m t) (raised-past m t l ge) e)) (cases_lt t 256)

-- the rest of word q, from bit s on
module _ (m : Mask) (q s : ℕ) (small : s < 64) (fits : get_or m.words q 0 < 2 ^ 64) where
  pub rest_none : get_or m.words q 0 / 2 ^ s ≡ 0 → (t : ℕ) → q * 64 + s ≤ t → t < q * 64 + 64 → raised m t ≡ false
  rest_none z t low high =
      let j : ℕ = t - (q * 64 + s) in
      let e : q * 64 + (s + j) ≡ t = omega arith in
      ap (raised m) (sym e)
      ∙ (raised_at m q (s + j) (omega arith)
      ∙ (sym (bit_of-shr (get_or m.words q 0) s j) ∙ (ap (λ (n : ℕ). bit_of n j) z ∙ bit_zero j)))

  abbrev tz : ℕ
  tz = count_trailing_zeros 64 (get_or m.words q 0 / 2 ^ s)

  low_of : 0 < get_or m.words q 0 / 2 ^ s → Lowest (get_or m.words q 0 / 2 ^ s) tz 64
  low_of p = lowest 64 (get_or m.words q 0 / 2 ^ s) p (omega (arith, shr_le (get_or m.words q 0) s))

  inside : 0 < get_or m.words q 0 / 2 ^ s → s + tz < 64
  inside p =
      ⊎_elim (λ h. h) (λ h. absurd (both_ways (bit_of (get_or m.words q 0) (s + tz))
      (bit_past (get_or m.words q 0) 64 (s + tz) fits h)
      (sym (bit_of-shr (get_or m.words q 0) s tz) ∙ (low_of p).here)))
      (cases_lt (s + tz) 64)

  pub rest_some : 0 < get_or m.words q 0 / 2 ^ s → Least (raised m) (q * 64 + s) (Some (q * 64 + s + tz))
  rest_some p = (
    omega arith,
    (let e : q * 64 + s + tz ≡ q * 64 + (s + tz) = omega arith in
        ap (raised m) e
        ∙ (raised_at m q (s + tz) (inside p)
        ∙ (sym (bit_of-shr (get_or m.words q 0) s tz) ∙ (low_of p).here))),
    (λ t low high.
        let j : ℕ = t - (q * 64 + s) in
        let i = inside p in
        let e : q * 64 + (s + j) ≡ t = omega arith in
        ap (raised m) (sym e)
        ∙ (raised_at m q (s + j) (omega arith)
        ∙ (sym (bit_of-shr (get_or m.words q 0) s j) ∙ (low_of p).below j (omega arith)))),
  )

-- the least raised bit from the start of word q, where that word is not 0
pub word_some : (m : Mask) (q : ℕ) → get_or m.words q 0 < 2 ^ 64 → 0 < get_or m.words q 0 → Least (raised m) (q * 64) (Some (q * 64 + count_trailing_zeros 64 (get_or m.words q 0)))
word_some m q fits p =
    let n : ℕ = get_or m.words q 0 in
    let r : Least (raised m) (q * 64 + 0) (Some (q * 64 + 0 + count_trailing_zeros 64 (n / 2 ^ 0))) = rest_some m q 0 (omega arith) fits (omega (arith, div-one n)) in
    let s : Least (raised m) (q * 64 + 0) (Some (q * 64 + 0 + count_trailing_zeros 64 n)) = subst (λ (x : ℕ). Least (raised m) (q * 64 + 0) (Some (q * 64 + 0 + count_trailing_zeros 64 x))) (div-one n) r in
    subst (λ (x : ℕ). Least (raised m) x (Some (x + count_trailing_zeros 64 n))) (add-zero (q * 64)) s
