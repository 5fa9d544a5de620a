-- Three parts written one after another are the packed source.
use Rattle.std.proofs.Common.{◌≡◌, ℕ, ◌+◌, ◌*◌, ◌≤◌, Bool, List, length, take, drop, sym, refl, ap, ◌∙◌, subst, ap₂, arith}
use mathlib.Core.Path.{fun_ext}
use Rattle.std.proofs.lemmas.Nat.{mul-le}
use Rattle.bitset_interface.specs.Source.{Source}
use Rattle.packing.specs.Packed.{held, full, row_count, block_count, chosen, level1, start_words, quarter, data_words, packed, needed, four}
use Rattle.packing.specs.Fills.{k1, kd, all_words}
use Rattle.packing.specs.Packs.{WordsOf}
use Rattle.packing.specs.Wrote.{Wrote}
use Rattle.bit_block.proofs.Counting.{count_le}
use Rattle.packing.proofs.Lengths.{length-level1, length_data, length_singles}
use Rattle.packing.proofs.Writes.{wrote_then, wrote_as}

pub rows_most : (h : ℕ → ℕ → Bool) → row_count h ≤ 256
rows_most h = count_le (full h) 256

pub length_starts : (xs : List ℕ) → length (start_words xs) ≡ quarter (length xs)
length_starts xs = length_singles (λ q. four xs (4 * q)) (quarter (length xs))

-- the masks that were found, for the rows that were found, are the level-1 words
pub level1_of : (s : Source) (k : ℕ) (which : ℕ → Bool) → ((i : ℕ) → which i ≡ full (held s) i) → {x y : List ℕ} {a : ℕ} → Wrote x y 0 (chosen k which (held s) 256) a
    → Wrote x y 0 (level1 k (held s)) a
level1_of s k which top {x} {y} {a} w = subst (λ (f : ℕ → Bool). Wrote x y 0 (chosen k f (held s) 256) a) (fun_ext top) w

module _ (s : Source) (p q : ℕ) {x y : List ℕ} {a : ℕ} (one : Wrote x y 0 (level1 p (held s)) a) where
  pub after_one : a ≡ row_count (held s) * p
  after_one = omega (arith, one.to, length-level1 p (held s) 256)

  pub one_few : p ≤ 4 → a ≤ 1024
  one_few h = omega (arith, after_one, mul-le (row_count (held s)) p 256 4 (rows_most (held s)) h)

  module _ {z : List ℕ} {b : ℕ} (two : Wrote y z a (start_words (take a y)) b) where
    two' : Wrote y z a (start_words (level1 p (held s))) b
    two' = wrote_as two (ap start_words one.front) refl

    pub after_two : b ≡ row_count (held s) * p + quarter (row_count (held s) * p)
    after_two =
        let n : length (start_words (level1 p (held s))) ≡ quarter (row_count (held s) * p) = length_starts (level1 p (held s)) ∙ ap quarter (length-level1 p (held s) 256) in
        omega (arith, two'.to, n, after_one)

    module _ {w : List ℕ} {c : ℕ} (three : Wrote z w b (data_words q s) c) (ep : p ≡ k1 s) (eq : q ≡ kd s) where
      all : Wrote x w 0 (packed p q s) c
      all = wrote_then (wrote_then one two') three

      pub after_all : c ≡ all_words s
      after_all =
          let e : c ≡ needed p q (row_count (held s)) (block_count (held s)) = omega (arith, three.to, after_two, length_data q s 256) in
          e ∙ ap₂ (λ (i j : ℕ). needed i j (row_count (held s)) (block_count (held s))) ep eq

      -- the words are those of the source
      pub filled : WordsOf s x w
      filled = record {
        long = all.long;
        front = ap (λ (n : ℕ). take n w) (sym after_all) ∙ all.front ∙ ap₂ (λ (i j : ℕ). packed i j s) ep eq;
        rest = ap (λ (n : ℕ). drop n w) (sym after_all) ∙ all.rest ∙ ap (λ (n : ℕ). drop n x) after_all;
      }
