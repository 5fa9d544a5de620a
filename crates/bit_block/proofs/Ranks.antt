-- Ranks of a mask: its raised bits counted word by word.
use Rattle.std.proofs.Common.{zero, suc, ◌^◌, ◌<◌, take, sum_by, ◌≡◌, ℕ, ◌+◌, ◌*◌, ◌/◌, ◌%◌, ◌≤◌, length, get_or, sym, ap, ◌∙◌, add-one, arith}
use lib.Count.{ones}
use Rattle.std.proofs.lemmas.List.Sums.{sum_by_more}
use Rattle.std.proofs.lemmas.Nat.{mod_below, div-add-mod'}
use Rattle.bit_block.specs.Bit.{bit_of}
use Rattle.bit_block.specs.Raised.{raised}
use Rattle.bit_block.specs.Ranges.{count}
use Rattle.bit_block.specs.declared.mask.Mask.{Mask}
use Rattle.bit_block.proofs.Counting.{count_none, count_same, count_add, count_past, ones_count}
use Rattle.bit_block.proofs.Masks.{raised_at, raised-past}

module _ (m : Mask) where
  -- the raised bits below bit r of word q
  word_count : (q r : ℕ) → r ≤ 64 → count (bit_of (get_or m.words q 0)) r ≡ count (λ t. raised m (q * 64 + t)) r
  word_count q r h = count_same (bit_of (get_or m.words q 0)) (λ t. raised m (q * 64 + t)) r (λ t l. sym (raised_at m q t (omega arith)))

  -- those of the words before q and those below bit r of word q
  pub rank_word : (q r : ℕ) → r ≤ 64 → count (raised m) (q * 64 + r) ≡ count (raised m) (q * 64) + count (bit_of (get_or m.words q 0)) r
  rank_word q r h = omega (arith, count_add (raised m) (q * 64) r, word_count q r h)

  -- one word more
  pub rank_more : (q : ℕ) → count (raised m) ((q + 1) * 64) ≡ count (raised m) (q * 64) + count (bit_of (get_or m.words q 0)) 64
  rank_more q = ap (count (raised m)) (let e : (q + 1) * 64 ≡ q * 64 + 64 = omega arith in e) ∙ rank_word q 64 (omega arith)

  -- the rank of place t
  pub rank_at : (t : ℕ) → count (raised m) t ≡ count (raised m) (t / 64 * 64) + count (bit_of (get_or m.words (t / 64) 0)) (t % 64)
  rank_at t = ap (count (raised m)) (sym (div-add-mod' t 64)) ∙ rank_word (t / 64) (t % 64) (omega (arith, mod_below t 64 (omega arith)))

  -- past the last bit the rank is the whole count
  pub rank_past : (t : ℕ) → length m.words ≡ 4 → 256 ≤ t → count (raised m) t ≡ count (raised m) 256
  rank_past t l h = count_past (raised m) 256 t h (λ u g. raised-past m u l g)

  -- the raised bits of the first words
  pub ones_taken : length m.words ≡ 4 → ((i : ℕ) → get_or m.words i 0 < 2 ^ 64) → (q : ℕ) → q ≤ 4 → sum_by ones (take q m.words) ≡ count (raised m) (q * 64)
  ones_taken l fits zero h = sym (count_none (raised m))
  ones_taken l fits (suc q) h =
      let a : sum_by ones (take (suc q) m.words) ≡ sum_by ones (take (q + 1) m.words) = ap (λ (n : ℕ). sum_by ones (take n m.words)) (sym (add-one q)) in
      let b : count (raised m) ((q + 1) * 64) ≡ count (raised m) (suc q * 64) = ap (λ (n : ℕ). count (raised m) (n * 64)) (add-one q) in
      omega (arith, a, b, sum_by_more ones m.words q 0 (omega (arith, l)), ones_taken l fits q (omega arith), ones_count 64 (get_or m.words q 0) (fits q), rank_more q)
