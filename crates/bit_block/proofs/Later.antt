-- The first word that is not 0, and what it says of a mask's bits.
use Rattle.std.proofs.Common.{◌≡◌, ℕ, ◌+◌, ◌-◌, ◌*◌, ◌/◌, ◌^◌, ◌<◌, ◌≤◌, Bool, true, false, not, cond, eqb, ltb, List, length, get_or, drop, Some, None, Option, sym, ap, ◌∙◌, ⊎_elim, arith}
use Rattle.std.specs.List.{position, position_or_len}
use Rattle.std.proofs.lemmas.List.{get_or_past, get_or-drop}
use Rattle.std.proofs.lemmas.List.Quantifiers.{position-Some}
use Rattle.std.proofs.lemmas.List.Sums.{fails_before_first}
use Rattle.std.proofs.lemmas.Bool.{cases_lt, cases_eq, lt-ltb, ne_eqb, true≢false, cond-true}
use lib.Count.{count_trailing_zeros}
use Rattle.bit_block.specs.Bit.{Least}
use Rattle.bit_block.specs.Raised.{raised}
use Rattle.bit_block.specs.declared.mask.Mask.{Mask}
use Rattle.bit_block.proofs.Masks.{raised-zero, word_some}
use Rattle.bit_block.proofs.Leasts.{least_widen}

-- whether a word is not 0
abbrev pub some : ℕ → Bool
some x = not (eqb x 0)

none_below : (p : ℕ → Bool) (xs : List ℕ) → p 0 ≡ false → None ≡ position p xs → (q : ℕ) → p (get_or xs q 0) ≡ false
none_below p xs z e q =
    let n : ℕ = position_or_len p xs in
    let long : length xs ≤ n = ⊎_elim (λ lt. absurd (let s : Option ℕ = cond (ltb n (length xs)) (Some n) None in let f : s ≡ Some n = cond-true (ltb n (length xs)) (Some n) None (lt-ltb n (length xs) lt) in cc)) (λ ge. ge) (cases_lt n (length xs)) in
    ⊎_elim (λ lt. fails_before_first p xs q 0 lt) (λ ge. ap p (get_or_past xs q 0 (omega arith)) ∙ z) (cases_lt q n)

-- the position of the first that passes is the least place that passes, where what stands past the end does not
pub position_least : (p : ℕ → Bool) (xs : List ℕ) → p 0 ≡ false → (r : Option ℕ) → r ≡ position p xs → Least (λ q. p (get_or xs q 0)) 0 r
position_least p xs z None e = λ t _. none_below p xs z e t
position_least p xs z (Some i) e = let s = position-Some p xs i 0 (sym e) in (omega arith, s.1, λ t _ lt. s.2 t lt)

zero_word : (x : ℕ) → some x ≡ false → x ≡ 0
zero_word x e = ⊎_elim (λ h. h) (λ n. absurd (let f : eqb x 0 ≡ false = ne_eqb x 0 n in true≢false (sym (ap not f) ∙ e))) (cases_eq x 0)

module _ (m : Mask) (w k : ℕ) (near : k ≤ w * 64) (none : (t : ℕ) → k ≤ t → t < w * 64 → raised m t ≡ false) where
  -- a word before the least that is not 0 raises no bit
  quiet : (t : ℕ) → w * 64 ≤ t → some (get_or (drop w m.words) (t / 64 - w) 0) ≡ false → raised m t ≡ false
  quiet t h e =
      let q : w + (t / 64 - w) ≡ t / 64 = omega arith in
      raised-zero m t (ap (λ (x : ℕ). get_or m.words x 0) (sym q) ∙ (sym (get_or-drop w m.words (t / 64 - w) 0) ∙ zero_word _ e))

  -- no word from w on: no bit from k on
  pub later_none : Least (λ q. some (get_or (drop w m.words) q 0)) 0 None → Least (raised m) k None
  later_none h t l = ⊎_elim (λ lt. none t l lt) (λ ge. quiet t ge (h (t / 64 - w) (omega arith))) (cases_lt t (w * 64))

  -- word w + i is the first that is not 0: its first bit is the least from k on
  pub later_some : (i : ℕ) → get_or m.words (w + i) 0 < 2 ^ 64 → Least (λ q. some (get_or (drop w m.words) q 0)) 0 (Some i)
      → Least (raised m) k (Some ((w + i) * 64 + count_trailing_zeros 64 (get_or m.words (w + i) 0)))
  later_some i fits h =
      let here : some (get_or m.words (w + i) 0) ≡ true = ap some (sym (get_or-drop w m.words i 0)) ∙ h.1 in
      let positive : 0 < get_or m.words (w + i) 0 = ⊎_elim (λ z. absurd (true≢false (sym here ∙ ap some z))) (λ n. omega (arith, n)) (cases_eq (get_or m.words (w + i) 0) 0) in
      least_widen (raised m) k ((w + i) * 64) (Some _) (omega (arith, near))
      (λ t l u. ⊎_elim (λ lt. none t l lt) (λ ge. quiet t ge (h.2 (t / 64 - w) (omega arith) (omega arith))) (cases_lt t (w * 64)))
      (word_some m (w + i) fits positive)
