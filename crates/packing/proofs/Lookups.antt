-- Where the words of a block stand.
use Rattle.std.proofs.Common.{◌≡◌, ℕ, ◌+◌, ◌*◌, ◌/◌, ◌%◌, ◌^◌, ◌<◌, ◌≤◌, Bool, true, false, cond, ltb, List, length, get_or, take, sym, ap, ◌∙◌, mul-le-mul_right, add-mul, arith}
use lib.Count.{ones}
use Rattle.std.proofs.lemmas.Nat.{mul-le, mod_below}
use Rattle.std.proofs.lemmas.List.{length-take-le, get_or-take}
use Rattle.std.proofs.lemmas.Bool.{and_from, and_left, and_right, lt-ltb, le-ltb, eq-eqb, ne_eqb}
use lib.Bits.{bit_and, and_mask}
use Rattle.bit_block.specs.Bit.{bit_of}
use Rattle.bit_block.specs.Raised.{raised}
use Rattle.packing.specs.declared.Numbers.{Numbers}
use Rattle.bit_block.specs.Ranges.{count}
use Rattle.packing.specs.Packed.{before}
use Rattle.packing.specs.Meaning.{k1of, kdof, k1-whole, Rows, Counts, len_of, word_place, held_at, rank, block_place}
use Rattle.bit_block.proofs.Counting.{count_le, count_more, ones_count}
use Rattle.packing.proofs.Ranges.{count_grows}
use Rattle.packing.proofs.Lengths.{room}
use Rattle.packing.proofs.Starts.{before_more, before_grows}

pub not_row : (m : Numbers) (ws : List ℕ) (i j : ℕ) → raised m.level0 i ≡ false → held_at m ws i j ≡ false
unfolding held_at
not_row m ws i j e = and_left (raised m.level0 i) _ e

pub not_wide : (m : Numbers) (ws : List ℕ) (i j : ℕ) → k1of m * 64 ≤ j → held_at m ws i j ≡ false
unfolding held_at
not_wide m ws i j h = and_right (raised m.level0 i) _ (and_left (ltb j (k1of m * 64)) _ (le-ltb j (k1of m * 64) h))

pub not_bit : (m : Numbers) (ws : List ℕ) (i j : ℕ) → bit_of (get_or ws (word_place m i j) 0) (j % 64) ≡ false → held_at m ws i j ≡ false
unfolding held_at
not_bit m ws i j e = and_right (raised m.level0 i) _ (and_right (ltb j (k1of m * 64)) _ e)

pub bit_yes : (w r : ℕ) → bit_and (w / 2 ^ r) 1 ≡ 1 → bit_of w r ≡ true
bit_yes w r e = eq-eqb (w / 2 ^ r % 2) 1 (sym (and_mask (w / 2 ^ r) 1) ∙ e)

pub bit_no : (w r : ℕ) → (bit_and (w / 2 ^ r) 1 ≡ 1 → ⊥) → bit_of w r ≡ false
bit_no w r n = ne_eqb (w / 2 ^ r % 2) 1 (λ e. n (and_mask (w / 2 ^ r) 1 ∙ e))

module _ (m : Numbers) (ws : List ℕ) (rows : Rows m) (counts : Counts m ws) where
  pub len_most : len_of m ≤ 1024
  len_most = omega (arith, mul-le m.n (k1of m) 256 4 (omega (arith, rows, count_le (raised m.level0) 256)) (k1-whole m).1)

  pub len_fits : len_of m ≤ length ws
  len_fits = omega (arith, counts.1)

  long : length (take (len_of m) ws) ≡ len_of m
  long = length-take-le (len_of m) ws len_fits

  pub row_fits : (i : ℕ) → i < 256 → raised m.level0 i ≡ true → count (raised m.level0) i * k1of m + k1of m ≤ len_of m
  row_fits i hi up =
      let c : ℕ = count (raised m.level0) i * k1of m in
      let r : c + cond (raised m.level0 i) (k1of m) 0 ≤ len_of m =
      room (raised m.level0) (k1of m) i 0 c (len_of m) (omega arith) (omega (arith, ap (λ (x : ℕ). x * k1of m) rows)) hi in
      omega (arith, r, ap (λ (b : Bool). cond b (k1of m) 0) up)

  module _ (i : ℕ) (hi : i < 256) (up : raised m.level0 i ≡ true) (j : ℕ) (hj : j < k1of m * 64) where
    pub place_lt : word_place m i j < len_of m
    place_lt = omega (arith, row_fits i hi up)

    module _ (fits : (t : ℕ) → get_or ws t 0 < 2 ^ 64) (bit : bit_of (get_or ws (word_place m i j) 0) (j % 64) ≡ true) where
      pub held_is : held_at m ws i j ≡ true
      unfolding held_at
      held_is = and_from (raised m.level0 i) _ up (and_from (ltb j (k1of m * 64)) _ (lt-ltb j (k1of m * 64) hj) bit)

      pub rank_lt : rank m ws i j < m.d
      rank_lt =
          let L : List ℕ = take (len_of m) ws in
          let p : ℕ = word_place m i j in
          let w : ℕ = get_or ws p 0 in
          let r : ℕ = j % 64 in
          let a : before L (p + 1) ≡ before L p + ones (get_or L p 0) = before_more L p (omega (arith, long, place_lt)) in
          let e : ones (get_or L p 0) ≡ ones w = ap ones (get_or-take (len_of m) ws p 0 place_lt) in
          let f : cond (bit_of w r) 1 0 ≡ 1 = ap {B = ℕ} (λ (b : Bool). cond b 1 0) bit in
          let g : count (bit_of w) (r + 1) ≤ count (bit_of w) 64 = count_grows (bit_of w) (r + 1) 64 (omega (arith, mod_below j 64 (omega arith))) in
          omega (arith, a, e, f, g, ones_count 64 w (fits p), count_more (bit_of w) r, before_grows L (p + 1) (len_of m) (omega (arith, place_lt)), counts.0)

      pub block_fits : block_place m ws i j + kdof m ≤ length ws
      unfolding block_place
      block_fits =
          let k : (rank m ws i j + 1) * kdof m ≤ m.d * kdof m = mul-le-mul_right (kdof m) (omega (arith, rank_lt)) in
          omega (arith, k, add-mul (rank m ws i j) 1 (kdof m), counts.1)
