-- Starts: how many ones stand before a word.
use Rattle.std.proofs.Common.{◌≡◌, ℕ, zero, suc, ◌+◌, ◌-◌, ◌*◌, ◌/◌, ◌%◌, ◌^◌, ◌<◌, ◌≤◌, ltb, List, length, get_or, take, sum_by, sym, refl, ap, ◌∙◌, inl, inr, ⊎_elim, add-one, arith}
use lib.Count.{ones, ones-le}
use Rattle.std.proofs.lemmas.List.Sums.{sum_by_more}
use Rattle.std.proofs.lemmas.List.{take_all, length-take-le, get_or-take, get_or_past}
use Rattle.std.proofs.lemmas.Bool.{lt-ltb, le-ltb, cond-true, cond-false, cases_lt, cases_eq}
use Rattle.packing.specs.Packed.{before, start, four}

pub before-none : (xs : List ℕ) → before xs 0 ≡ 0
unfolding before
before-none xs = refl

pub before_more : (xs : List ℕ) (m : ℕ) → m < length xs → before xs (m + 1) ≡ before xs m + ones (get_or xs m 0)
unfolding before
before_more xs m h = sum_by_more ones xs m 0 h

pub before-past : (xs : List ℕ) (m : ℕ) → length xs ≤ m → before xs (m + 1) ≡ before xs m
unfolding before
before-past xs m h = ap (sum_by ones) (take_all (m + 1) xs (omega arith) ∙ sym (take_all m xs h))

-- at most 64 for each word
pub before_le : (xs : List ℕ) → ((t : ℕ) → get_or xs t 0 < 2 ^ 64) → (m : ℕ) → before xs m ≤ 64 * m
before_le xs fits zero = omega (arith, before-none xs)
before_le xs fits (suc m) =
    let e : before xs (suc m) ≡ before xs (m + 1) = ap (before xs) (sym (add-one m)) in
    let o : ones (get_or xs m 0) ≤ 64 = ones-le 64 (get_or xs m 0) (fits m) in
    let i = before_le xs fits m in
    elim (cases_lt m (length xs)) as (λ _. before xs (suc m) ≤ 64 * suc m) [
      | inl l ↦ omega (arith, e, o, i, before_more xs m l)
      | inr l ↦ omega (arith, e, i, before-past xs m l)
    ]

pub start_in : (xs : List ℕ) (m : ℕ) → m < length xs → start xs m ≡ before xs m
unfolding start
start_in xs m h = cond-true (ltb m (length xs)) (before xs m) 0 (lt-ltb m (length xs) h)

pub start-past : (xs : List ℕ) (m : ℕ) → length xs ≤ m → start xs m ≡ 0
unfolding start
start-past xs m h = cond-false (ltb m (length xs)) (before xs m) 0 (le-ltb m (length xs) h)

pub fits_take : (ws : List ℕ) (n : ℕ) → ((t : ℕ) → get_or ws t 0 < 2 ^ 64) → n ≤ length ws → (t : ℕ) → get_or (take n ws) t 0 < 2 ^ 64
fits_take ws n fits h t =
    ⊎_elim
    (λ l. omega (arith, get_or-take n ws t 0 l, fits t))
    (λ l. omega (arith, get_or_past (take n ws) t 0 (omega (arith, length-take-le n ws h))))
    (cases_lt t n)

pub before_grows : (xs : List ℕ) (m n : ℕ) → m ≤ n → before xs m ≤ before xs n
before_grows xs m zero h = omega (arith, ap (before xs) (let e : m ≡ 0 = omega arith in e))
before_grows xs m (suc n) h =
    let e : before xs (suc n) ≡ before xs (n + 1) = ap (before xs) (sym (add-one n)) in
    ⊎_elim (λ q. omega (arith, ap (before xs) q))
    (λ ne. let i = before_grows xs m n (omega arith) in
    ⊎_elim (λ l. omega (arith, e, i, before_more xs n l)) (λ l. omega (arith, e, i, before-past xs n l)) (cases_lt n (length xs)))
    (cases_eq m (suc n))

pub start_small : (xs : List ℕ) → ((t : ℕ) → get_or xs t 0 < 2 ^ 64) → length xs ≤ 1024 → (m : ℕ) → start xs m < 65536
start_small xs fits few m =
    ⊎_elim (λ l. omega (arith, start_in xs m l, before_le xs fits m)) (λ l. omega (arith, start-past xs m l)) (cases_lt m (length xs))

-- field e of a word of four starts
pub field_is : (xs : List ℕ) (q e : ℕ) → e < 4 → ((m : ℕ) → start xs m < 65536) → four xs q / 2 ^ (48 - 16 * e) % 65536 ≡ start xs (q + e)
unfolding four
field_is xs q zero h small =
    let z : start xs (q + 0) ≡ start xs q = ap (start xs) (let e : q + 0 ≡ q = omega arith in e) in
    omega (arith, z, small q, small (q + 1), small (q + 2), small (q + 3))
field_is xs q (suc zero) h small = omega (arith, small q, small (q + 1), small (q + 2), small (q + 3))
field_is xs q (suc (suc zero)) h small = omega (arith, small q, small (q + 1), small (q + 2), small (q + 3))
field_is xs q (suc (suc (suc zero))) h small = omega (arith, small q, small (q + 1), small (q + 2), small (q + 3))
field_is xs q (suc (suc (suc (suc e)))) h small = absurd (omega arith)
