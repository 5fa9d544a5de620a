-- Where the words of a stored block stand.
use Rattle.std.proofs.Common.{◌≡◌, ℕ, ◌+◌, ◌*◌, ◌%◌, ◌^◌, ◌<◌, ◌≤◌, true, false, cond, List, length, get_or, take, Some, None, sym, ap, ◌∙◌, ap₂, arith}
use Rattle.std.proofs.lemmas.Bool.{cond-true, cond-false}
use Rattle.bit_block.specs.Bit.{bit_of}
use Rattle.bit_block.specs.Raised.{raised}
use Rattle.bit_block.specs.Ranges.{count}
use Rattle.bit_block.proofs.Places.{sized}
use Rattle.packing.specs.declared.Numbers.{Numbers}
use Rattle.packing.specs.Packed.{before, quarter}
use Rattle.packing.specs.Meaning.{Sound, k1of, kdof, len_of, word_place, held_at, rank, block_place}
use Rattle.packing.proofs.Lookups.{held_is, block_fits}

-- what is answered where block (i, j) is not stored
pub none : (m : Numbers) (ws : List ℕ) (i j : ℕ) → held_at m ws i j ≡ false → None ≡ cond (held_at m ws i j) (Some (block_place m ws i j)) None
none m ws i j e = sym (cond-false (held_at m ws i j) (Some (block_place m ws i j)) None e)

-- a raised row is one of the rows
pub low : (m : Numbers) (ws : List ℕ) → Sound m ws → (i : ℕ) → raised m.level0 i ≡ true → i < 256
low m ws s i up = omega (arith, s.wide i up, (sized m.config.level0).most)

-- the place that is computed from the start of word p of bit (i, j), the raised bits below it, the place of the data words and the words of a block
module _ (m : Numbers) (ws : List ℕ) (s : Sound m ws) (i : ℕ) (up : raised m.level0 i ≡ true) (j : ℕ) (hj : j < k1of m * 64) (p : ℕ) (at : p ≡ word_place m i j)
    (fits : (t : ℕ) → get_or ws t 0 < 2 ^ 64) (bit : bit_of (get_or ws p 0) (j % 64) ≡ true)
    (a b d l : ℕ) (ea : a ≡ before (take (len_of m) ws) p) (eb : b ≡ count (bit_of (get_or ws p 0)) (j % 64)) (ed : d ≡ kdof m) (el : l ≡ len_of m + quarter (len_of m)) where
  is_up : bit_of (get_or ws (word_place m i j) 0) (j % 64) ≡ true
  is_up = ap (λ (x : ℕ). bit_of (get_or ws x 0) (j % 64)) (sym at) ∙ bit

  is_rank : a + b ≡ rank m ws i j
  is_rank = ap₂ ◌+◌ (ea ∙ ap (before (take (len_of m) ws)) at) (eb ∙ ap (λ (x : ℕ). count (bit_of (get_or ws x 0)) (j % 64)) at)

  place : l + (a + b) * d ≡ block_place m ws i j
  unfolding block_place
  place = ap (λ (n : ℕ). n + (a + b) * d) el ∙ ap₂ (λ (r n : ℕ). len_of m + quarter (len_of m) + r * n) is_rank ed

  pub place_fits : l + (a + b) * d + kdof m ≤ length ws
  place_fits = omega (arith, place, block_fits m ws s.rows s.counts i (low m ws s i up) up j hj fits is_up)

  pub answer : Some (l + (a + b) * d) ≡ cond (held_at m ws i j) (Some (block_place m ws i j)) None
  answer = ap Some place ∙ sym (cond-true (held_at m ws i j) (Some (block_place m ws i j)) None (held_is m ws s.rows s.counts i (low m ws s i up) up j hj fits is_up))
