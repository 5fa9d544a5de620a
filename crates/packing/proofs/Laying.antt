-- Writing what a walk found, part by part.
use Rattle.std.proofs.Common.{◌≡◌, ℕ, ◌+◌, ◌*◌, ◌<◌, ◌≤◌, Bool, true, false, cond, List, [], Some, None, Option, sym, refl, ap, ◌∙◌, subst, mul-le-mul_right, add-mul, arith}
use mathlib.Core.Path.{fun_ext}
use Rattle.std.proofs.lemmas.Bool.{cond-true, cond-false, ltb-false}
use Rattle.bit_block.specs.Bit.{Least}
use Rattle.bit_block.specs.Raised.{raised}
use Rattle.bit_block.specs.Ranges.{total, count}
use Rattle.bit_block.specs.declared.mask.Mask.{Mask}
use Rattle.bit_block.proofs.Counting.{count_more}
use Rattle.bitset_interface.specs.Source.{Source, Lawful}
use Rattle.packing.specs.Gathered.{words_of}
use Rattle.packing.specs.Packed.{held, blocks, full, chosen, data_row, data_to, data_words}
use Rattle.packing.specs.Wrote.{Wrote}
use Rattle.packing.proofs.Ranges.{gather_none, gather_skip, total_skip, count_skip, count_grows, count-nothing}
use Rattle.packing.proofs.Held.{full_under, w0_most}
use Rattle.packing.proofs.Lengths.{length_data, room_total}
use Rattle.packing.proofs.Writes.{wrote_part, wrote_parts}

-- what is found in a mask, in one that is equal
pub least_in : (m n : Mask) (k : ℕ) (r : Option ℕ) → m ≡ n → Least (raised m) k r → Least (raised n) k r
least_in m n k r e l = subst (λ (x : Mask). Least (raised x) k r) e l

-- masks that f chooses, one after another
module _ (k : ℕ) (f : ℕ → Bool) (g : ℕ → ℕ → Bool) where
  abbrev part : ℕ → List ℕ
  part i = cond (f i) (words_of k (g i)) []

  skipped : (i : ℕ) → f i ≡ false → part i ≡ []
  skipped i e = cond-false (f i) (words_of k (g i)) [] e

  -- one more
  pub chosen_more : (i found : ℕ) → Least f i (Some found) → {x y z : List ℕ} {a b c : ℕ} (m : ℕ → Bool) → ((t : ℕ) → m t ≡ g found t)
      → Wrote x y a (chosen k f g i) b → Wrote y z b (words_of k m) c → Wrote x z a (chosen k f g (found + 1)) c
  chosen_more i found l m is p q =
      wrote_part part i found l.0 (λ t a u. skipped t (l.2 t a u))
      (ap (words_of k) (fun_ext is) ∙ sym (cond-true (f found) (words_of k (g found)) [] l.1)) p q

  -- none is left
  pub chosen_all : (i : ℕ) → Least f i None → i ≤ 256 → {x y : List ℕ} {a b : ℕ} → Wrote x y a (chosen k f g i) b → Wrote x y a (chosen k f g 256) b
  chosen_all i l le p = wrote_parts part i 256 le (λ t a _. skipped t (l t a)) p

-- the place behind one more mask, and that there is room for it
module _ (k : ℕ) (f : ℕ → Bool) (i found : ℕ) (l : Least f i (Some found)) where
  pub place_more : count f (found + 1) * k ≡ count f i * k + k
  place_more =
      let e : count f found ≡ count f i = count_skip f i found l.0 (λ t a u. l.2 t a u) in
      let m : count f (found + 1) ≡ count f i + 1 = omega (arith, count_more f found, e, ap {B = ℕ} (λ (b : Bool). cond b 1 0) l.1) in
      ap (λ (x : ℕ). x * k) m ∙ add-mul (count f i) 1 k ∙ omega arith

  pub room_more : (a len : ℕ) → a + count f 256 * k ≤ len → found < 256 → a + count f i * k + k ≤ len
  room_more a len fits small =
      omega (arith, fits, place_more, mul-le-mul_right k (count_grows f (found + 1) 256 (omega arith)))

module _ (s : Source) (law : Lawful s) (k : ℕ) where
  -- a row that is not full has no blocks
  empty_row : (i : ℕ) → full (held s) i ≡ false → blocks (held s) i ≡ 0
  empty_row i e = omega (arith, ltb-false 0 (blocks (held s) i) e)

  none_held : (i : ℕ) → full (held s) i ≡ false → (j : ℕ) → j < 256 → held s i j ≡ false
  unfolding blocks
  none_held i e j l = count-nothing (held s i) 256 j (empty_row i e) l

  no_data : (i : ℕ) → full (held s) i ≡ false → data_row k s i ≡ []
  no_data i e =
      let p : ℕ → List ℕ = part k (held s i) (s.up2 i) in
      gather_skip p 0 256 (omega arith) (λ j _ l. skipped k (held s i) (s.up2 i) j (none_held i e j l)) ∙ gather_none p

  -- the rows, by a mask that says which are full
  module _ (m : ℕ → Bool) (top : (t : ℕ) → m t ≡ full (held s) t) where
    off : (t : ℕ) → m t ≡ false → full (held s) t ≡ false
    off t e = sym (top t) ∙ e

    module _ (i row : ℕ) (l : Least m i (Some row)) where
      on : full (held s) row ≡ true
      on = sym (top row) ∙ l.1

      pub row_below : row < 256
      row_below = omega (arith, full_under s law row on, w0_most s.conf)

      pub data_more : {x y z : List ℕ} {a b c : ℕ} → Wrote x y a (data_to k s i) b → Wrote y z b (data_row k s row) c → Wrote x z a (data_to k s (row + 1)) c
      data_more p q = wrote_part (data_row k s) i row l.0 (λ t a u. no_data t (off t (l.2 t a u))) refl p q

      -- room for its blocks
      pub data_room : {x y : List ℕ} {a at : ℕ} (len : ℕ) → Wrote x y a (data_to k s i) at → a + total (blocks (held s)) 256 * k ≤ len → at + blocks (held s) row * k ≤ len
      data_room {x} {y} {a} {at} len p fits =
          let e : total (blocks (held s)) row ≡ total (blocks (held s)) i = total_skip (blocks (held s)) i row l.0 (λ t b u. empty_row t (off t (l.2 t b u))) in
          room_total (blocks (held s)) k row a at len (omega (arith, p.to, length_data k s i, ap (λ (n : ℕ). n * k) e)) fits row_below

    pub data_all : (i : ℕ) → Least m i None → i ≤ 256 → {x y : List ℕ} {a b : ℕ} → Wrote x y a (data_to k s i) b → Wrote x y a (data_words k s) b
    data_all i l le p = wrote_parts (data_row k s) i 256 le (λ t a _. no_data t (off t (l t a))) p
