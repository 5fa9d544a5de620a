-- The walk over a source, row by row.
use Rattle.std.proofs.Common.{◌≡◌, ℕ, ◌+◌, ◌<◌, ◌≤◌, Bool, false, ◌&&◌, ltb, List, length, get_or, set, replicate, Some, None, sym, ap, ◌∙◌, ⊎_elim, arith, length-set, get_or-set_other, get_or-set_same}
use Rattle.std.proofs.lemmas.List.{length-replicate, get_or-replicate}
use Rattle.std.proofs.lemmas.Bool.{cases_eq, lt-ltb, le-ltb, and_left}
use Rattle.bit_block.specs.Bit.{Least}
use Rattle.bit_block.specs.Raised.{raised}
use Rattle.bit_block.specs.Ranges.{total, count}
use Rattle.bit_block.specs.declared.mask.Mask.{Mask}
use Rattle.bit_block.proofs.Counting.{total-none, count_same}
use Rattle.bitset_interface.specs.Source.{Source, Lawful}
use Rattle.packing.specs.Packed.{held, blocks, full}
use Rattle.packing.specs.Measures.{Measured}
use Rattle.packing.proofs.Ranges.{total_more, total_skip, total_le}
use Rattle.packing.proofs.Held.{blocks_le, w0_most}
use Rattle.packing.proofs.Walks.{UpTo, upto_all, moved, ended, row_off, blocks_off, full_off}

-- the rows below i are found: which hold something, their blocks, and how many blocks
pub record Rowed (s : Source) (i : ℕ) (level0 : Mask) (rows : List Mask) (d : ℕ) : Type 0 where
  pub top : UpTo (full (held s)) i (raised level0)
  pub row : (t : ℕ) (x : Mask) → t < 256 → (u : ℕ) → raised (get_or rows t x) u ≡ (ltb t i && held s t u)
  pub sum : d ≡ total (blocks (held s)) i
  pub small : i ≤ 256
  pub long : length rows ≡ 256

pub rowed_none : (s : Source) (z y : Mask) → ((t : ℕ) → raised z t ≡ false) → ((t : ℕ) → raised y t ≡ false) → Rowed s 0 z (replicate 256 y) 0
rowed_none s z y ez ey = record {
  top = λ t. ez t ∙ sym (and_left (ltb t 0) (full (held s) t) (le-ltb t 0 (omega arith)));
  row = λ t x l u. ap (λ (m : Mask). raised m u) (get_or-replicate 256 t y x l) ∙ ey u ∙ sym (and_left (ltb t 0) (held s t u) (le-ltb t 0 (omega arith)));
  sum = sym (total-none (blocks (held s)));
  small = omega arith;
  long = length-replicate 256 y;
}

module _ (s : Source) (law : Lawful s) (m : ℕ → Bool) (is : (t : ℕ) → m t ≡ s.up0 t) where
  off0 : (t : ℕ) → m t ≡ false → s.up0 t ≡ false
  off0 t e = sym (is t) ∙ e

  pub under : (t : ℕ) → m t ≡ false → full (held s) t ≡ false
  under t e = full_off s law t (off0 t e)

  under_row : (u t : ℕ) → m t ≡ false → held s t u ≡ false
  under_row u t e = row_off s law t (off0 t e) u

  module _ (i : ℕ) (level0 : Mask) (rows : List Mask) (d : ℕ) (r : Rowed s i level0 rows d) where
    -- so far there are few blocks
    pub few : d ≤ 65536
    few = omega (arith, r.sum, r.small, total_le (blocks (held s)) 256 i (blocks_le (held s)))

    module _ (found : ℕ) (l : Least m i (Some found)) where
      pub found_small : found < 256
      found_small = omega (arith, law.below0 found (sym (is found) ∙ l.1), w0_most s.conf)

      -- one row more
      pub rowed_more : (new row : Mask) (k : ℕ) → ((t : ℕ) → raised row t ≡ held s found t) → k ≡ count (raised row) 256
          → UpTo (full (held s)) (found + 1) (raised new) → Rowed s (found + 1) new (set rows found row) (d + k)
      unfolding blocks
      rowed_more new row k isrow isk top = record {
        top = top;
        row = λ t x h u. ⊎_elim
            (λ e.
            ap (λ (y : ℕ). raised (get_or (set rows found row) y x) u) e
            ∙ ap (λ (w : Mask). raised w u) (get_or-set_same rows found row x (omega (arith, found_small, r.long)))
            ∙ isrow u ∙ ap (λ (y : ℕ). held s y u) (sym e)
            ∙ sym (ap (λ (b : Bool). b && held s t u) (lt-ltb t (found + 1) (omega arith))))
            (λ ne.
            ap (λ (w : Mask). raised w u) (get_or-set_other rows found t row x ne) ∙ r.row t x h u
            ∙ moved m (λ y. held s y u) (under_row u) i found l t ne)
            (cases_eq t found);
        sum =
            let skip : total (blocks (held s)) found ≡ total (blocks (held s)) i = total_skip (blocks (held s)) i found l.0 (λ t a b. blocks_off s law t (off0 t (l.2 t a b))) in
            let here : k ≡ count (held s found) 256 = isk ∙ count_same (raised row) (held s found) 256 (λ t _. isrow t) in
            omega (arith, skip, here, r.sum, total_more (blocks (held s)) found);
        small = omega (arith, found_small);
        long = length-set rows found row ∙ r.long;
      }

    -- no row is left
    pub rowed_all : Least m i None → (n : ℕ) → n ≡ count (raised level0) 256 → Measured (held s) (record { level0 = level0; rows = rows; n = n; d = d })
    rowed_all l n e =
        let top : (t : ℕ) → raised level0 t ≡ full (held s) t = upto_all m (full (held s)) under i (raised level0) l r.top in
        record {
          top = top;
          row = λ t x h u. r.row t x h u ∙ ended m (λ y. held s y u) (under_row u) i l t;
          rows_are = e ∙ count_same (raised level0) (full (held s)) 256 (λ t _. top t);
          blocks_are = r.sum ∙ sym (total_skip (blocks (held s)) i 256 r.small (λ t a _. blocks_off s law t (off0 t (l t a))));
        }
