-- Places in what is gathered.
use Rattle.std.proofs.Common.{◌≡◌, ℕ, zero, suc, ◌+◌, ◌<◌, ◌≤◌, List, ◌++◌, length, get_or, take, sum_by, sym, ap, ◌∙◌, ⊎_elim, arith}
use lib.Seq.{take-append-add}
use Rattle.std.proofs.lemmas.List.Sums.{sum_by-append}
use Rattle.std.proofs.lemmas.List.{length-append, take-append-le, get_or_append_left, get_or-append-add}
use Rattle.std.proofs.lemmas.Bool.{cases_eq}
use Rattle.bit_block.specs.Ranges.{total}
use Rattle.packing.specs.Gathered.{gather}
use Rattle.bit_block.proofs.Counting.{total-none, total-suc}
use Rattle.packing.proofs.Ranges.{gather_none, gather_more, gather-suc}

module _ (g : ℕ → List ℕ) where
  pub gather_grows : (m n : ℕ) → m ≤ n → length (gather g m) ≤ length (gather g n)
  gather_grows m zero h = let e : m ≡ 0 = omega arith in omega (arith, ap (λ (x : ℕ). length (gather g x)) e)
  gather_grows m (suc n) h =
      ⊎_elim (λ e. omega (arith, ap (λ (x : ℕ). length (gather g x)) e))
      (λ ne. omega (arith, ap length (gather-suc g n), length-append (gather g n) (g n), gather_grows m n (omega arith)))
      (cases_eq m (suc n))

  -- the part of i ends within the whole
  pub gather_room : (n i : ℕ) → i < n → length (gather g i) + length (g i) ≤ length (gather g n)
  gather_room n i l = omega (arith, gather_grows (i + 1) n (omega arith), ap length (gather_more g i), length-append (gather g i) (g i))

  -- place q of the part of i
  pub gather_at : (n i q : ℕ) → i < n → q < length (g i) → get_or (gather g n) (length (gather g i) + q) 0 ≡ get_or (g i) q 0
  gather_at zero i q l h = absurd (omega arith)
  gather_at (suc n) i q l h =
      ap (λ (xs : List ℕ). get_or xs (length (gather g i) + q) 0) (gather-suc g n)
      ∙ ⊎_elim
      (λ e. ap (λ (x : ℕ). get_or (gather g n ++ g n) (length (gather g x) + q) 0) e ∙ get_or-append-add (gather g n) (g n) q 0 ∙ ap (λ (x : ℕ). get_or (g x) q 0) (sym e))
      (λ ne. get_or_append_left (gather g n) (g n) 0 (length (gather g i) + q) (omega (arith, gather_room n i (omega arith))) ∙ gather_at n i q (omega arith) h)
      (cases_eq i n)

  -- what stands before place q of the part of i
  pub gather_take : (n i q : ℕ) → i < n → q ≤ length (g i) → take (length (gather g i) + q) (gather g n) ≡ gather g i ++ take q (g i)
  gather_take zero i q l h = absurd (omega arith)
  gather_take (suc n) i q l h =
      ap (λ (xs : List ℕ). take (length (gather g i) + q) xs) (gather-suc g n)
      ∙ ⊎_elim
      (λ e. ap (λ (x : ℕ). take (length (gather g x) + q) (gather g n ++ g n)) e ∙ take-append-add (gather g n) (g n) q ∙ ap (λ (x : ℕ). gather g x ++ take q (g x)) (sym e))
      (λ ne. take-append-le (length (gather g i) + q) (gather g n) (g n) (omega (arith, gather_room n i (omega arith))) ∙ gather_take n i q (omega arith) h)
      (cases_eq i n)

  pub sum_gather : (f : ℕ → ℕ) (n : ℕ) → sum_by f (gather g n) ≡ total (λ i. sum_by f (g i)) n
  sum_gather f zero = ap (sum_by f) (gather_none g) ∙ sym (total-none (λ i. sum_by f (g i)))
  sum_gather f (suc n) =
      ap (sum_by f) (gather-suc g n) ∙ sum_by-append f (gather g n) (g n) ∙ ap (λ (x : ℕ). x + sum_by f (g n)) (sum_gather f n) ∙ sym (total-suc (λ i. sum_by f (g i)) n)
