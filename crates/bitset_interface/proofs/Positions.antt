-- Positions below the capacity and their indices; what a source holds whose upper bits are all raised.
use Rattle.std.proofs.Common.{◌≡◌, ℕ, ◌*◌, ◌%◌, ◌<◌, ◌≤◌, Bool, false, ◌&&◌, ltb, ◌⊎◌, Some, None, Option, sym, ap, ◌∙◌, ap₂, inl, inr, ⊎_elim, mul-pos, arith}
use Rattle.std.proofs.lemmas.Nat.{div_below, mod_below, div-add-mod'}
use Rattle.std.proofs.lemmas.Bool.{cases_lt, cases_Bool, lt-ltb, le-ltb, and_from, and_left}
use Rattle.bit_block.specs.declared.config.Config.{Config}
use Rattle.bit_block.specs.Widths.{bits, w0, w1, wd, capacity, index0, index1, index_d}
use Rattle.bit_block.proofs.Places.{sized}
use Rattle.bitset_interface.specs.Source.{Source, Lawful, holds}
use Rattle.bitset_interface.proofs.Caps.{bit_holds}
use Rattle.bitset_interface.specs.Spread.{spread, position}
use Rattle.bitset_interface.proofs.Places.{low, first, second, third}

-- below the capacity each index is below its width, and the indices give the position back
pub record Indexed (o : Option Config) (p : ℕ) : Type 0 where
  pub row : index0 o p < w0 o
  pub block : index1 o p < w1 o
  pub bit : index_d o p < wd o
  pub back : position o (index0 o p) (index1 o p) (index_d o p) ≡ p

pub indexed : (o : Option Config) (p : ℕ) → p < capacity o → Indexed o p
indexed None p h = absurd (omega arith)
indexed (Some c) p h =
    let w : ℕ = bits c.level1 in
    let v : ℕ = bits c.«data» in
    let pw : 0 < w = omega (arith, (sized c.level1).least) in
    let pv : 0 < v = omega (arith, (sized c.«data»).least) in
    let pos : 0 < w * v = mul-pos pw pv in
    record {
      row = div_below p (w * v) (bits c.level0) pos h;
      block = div_below (p % (w * v)) v w pv (mod_below p (w * v) pos);
      bit = mod_below p v pv;
      back = omega (arith, div-add-mod' p (w * v), div-add-mod' (p % (w * v)) v, low w v pw pv p);
    }

-- a source with every upper bit raised holds what its data bits say
pub spread-holds : (o : Option Config) (f : ℕ → ℕ → ℕ → Bool) (p : ℕ) → holds (spread o f) p ≡ (ltb p (capacity o) && f (index0 o p) (index1 o p) (index_d o p))
spread-holds o f p =
    ⊎_elim
    (λ h.
    let x = indexed o p h in
    ap (λ (b : Bool). ltb p (capacity o) && b)
    (ap₂ (λ (a b : Bool). a && b)
    (and_from (ltb (index0 o p) (w0 o)) (ltb (index1 o p) (w1 o)) (lt-ltb (index0 o p) (w0 o) x.row) (lt-ltb (index1 o p) (w1 o) x.block))
    (ap (λ (a : Bool). a && f (index0 o p) (index1 o p) (index_d o p)) (lt-ltb (index_d o p) (wd o) x.bit))))
    (λ h. and_left (ltb p (capacity o)) _ (le-ltb p (capacity o) h) ∙ sym (and_left (ltb p (capacity o)) (f (index0 o p) (index1 o p) (index_d o p)) (le-ltb p (capacity o) h)))
    (cases_lt p (capacity o))

module _ (s : Source) (law : Lawful s) where
  -- a bit within its widths says whether its position is held
  pub bit_of_position : (i j k : ℕ) → j < w1 s.conf → k < wd s.conf → s.up2 i j k ≡ holds s (position s.conf i j k)
  bit_of_position i j k hj hk =
      let w : ℕ = w1 s.conf in
      let v : ℕ = wd s.conf in
      let pw : 0 < w = omega arith in
      let pv : 0 < v = omega arith in
      sym (ap (λ (x : ℕ). s.up2 x (index1 s.conf (position s.conf i j k)) (index_d s.conf (position s.conf i j k))) (first w v pw pv i j k hj hk)
      ∙ ap (λ (x : ℕ). s.up2 i x (index_d s.conf (position s.conf i j k))) (second w v pw pv i j k hj hk)
      ∙ ap (s.up2 i j) (third w v pw pv i j k hj hk))
      ∙ bit_holds s law (position s.conf i j k)

-- sources of one configuration that hold the same positions have the same data bits
pub same_bits : (s t : Source) → Lawful s → Lawful t → s.conf ≡ t.conf → ((p : ℕ) → holds s p ≡ holds t p) → (i j k : ℕ) → s.up2 i j k ≡ t.up2 i j k
same_bits s t ls lt e h i j k =
    let out : ((a : Source) → Lawful a → (wd a.conf ≤ k) ⊎ (w1 a.conf ≤ j) → a.up2 i j k ≡ false) =
    λ a la o. ⊎_elim
    (λ up. absurd (⊎_elim (λ x. omega (arith, la.below2 i j k up)) (λ x. omega (arith, la.below1 i j (la.under2 i j k up))) o))
    (λ z. z) (cases_Bool (a.up2 i j k)) in
    let e1 : w1 s.conf ≡ w1 t.conf = ap w1 e in
    let ed : wd s.conf ≡ wd t.conf = ap wd e in
    ⊎_elim
    (λ hk. ⊎_elim
    (λ hj.
    bit_of_position s ls i j k hj hk ∙ h (position s.conf i j k)
    ∙ ap (λ (o : Option Config). holds t (position o i j k)) e
    ∙ sym (bit_of_position t lt i j k (omega arith) (omega arith)))
    (λ hj. out s ls (inr hj) ∙ sym (out t lt (inr (omega arith))))
    (cases_lt j (w1 s.conf)))
    (λ hk. out s ls (inl hk) ∙ sym (out t lt (inl (omega arith))))
    (cases_lt k (wd s.conf))
