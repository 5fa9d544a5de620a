-- A source holds no position at or past its capacity, so its bit at p says whether it holds p.
use Rattle.std.proofs.Common.{◌≡◌, ℕ, ◌+◌, ◌*◌, ◌/◌, ◌^◌, ◌<◌, ◌≤◌, Bool, true, ◌&&◌, ltb, Some, None, Option, sym, ap, ◌∙◌, ⊎_elim, add-mul, mul-pos, arith}
use Rattle.std.proofs.lemmas.Nat.{div-add-mod', mod_below, mul-le}
use Rattle.std.proofs.lemmas.Bool.{cases_Bool, and_parts, and_right, lt-ltb, ltb-true}
use Rattle.bit_block.specs.declared.config.Config.{Config}
use Rattle.bit_block.specs.Widths.{bits, w0, w1, wd, capacity, index0, index1, index_d}
use Rattle.bit_block.proofs.Places.{sized}
use Rattle.bitset_interface.specs.Source.{Source, Lawful, bit_at, holds}

module _ (s : Source) (law : Lawful s) (p : ℕ) where
  module _ (up : bit_at s p ≡ true) where
    abbrev W : ℕ
    W = w1 s.conf * wd s.conf

    hd : index_d s.conf p < wd s.conf
    hd = law.below2 (index0 s.conf p) (index1 s.conf p) (index_d s.conf p) up

    up1 : s.up1 (index0 s.conf p) (index1 s.conf p) ≡ true
    up1 = law.under2 (index0 s.conf p) (index1 s.conf p) (index_d s.conf p) up

    h1 : index1 s.conf p < w1 s.conf
    h1 = law.below1 (index0 s.conf p) (index1 s.conf p) up1

    h0 : index0 s.conf p < w0 s.conf
    h0 = law.below0 (index0 s.conf p) (law.under1 (index0 s.conf p) (index1 s.conf p) up1)

    -- a raised bit's position lies below the capacity
    pub bit_below : p < capacity s.conf
    bit_below =
        let pos : 0 < W = mul-pos {m = w1 s.conf} {n = wd s.conf} (omega (arith, h1)) (omega (arith, hd)) in
        let m = mul-le (p / W + 1) W (w0 s.conf) W (omega (arith, h0)) (omega arith) in
        omega (arith, m, div-add-mod' p W, mod_below p W pos, add-mul (p / W) 1 W)

  -- the laws make the capacity test needless
  pub bit_holds : bit_at s p ≡ holds s p
  bit_holds =
      ⊎_elim
      (λ e. e ∙ sym (ap (λ (b : Bool). ltb p (capacity s.conf) && b) e ∙ ap (λ (b : Bool). b && true) (lt-ltb p (capacity s.conf) (bit_below e))))
      (λ e. e ∙ sym (and_right (ltb p (capacity s.conf)) (bit_at s p) e))
      (cases_Bool (bit_at s p))

  -- a held position lies below the capacity
  pub held_below : holds s p ≡ true → p < capacity s.conf
  held_below h = ltb-true p (capacity s.conf) (and_parts (ltb p (capacity s.conf)) (bit_at s p) h).0

  -- the bit at the three indices of p says whether p is held
  pub bit_looked_up : (cfg : Config) → Some cfg ≡ s.conf → (i j k : ℕ) → i ≡ index0 (Some cfg) p → j ≡ index1 (Some cfg) p → k ≡ index_d (Some cfg) p
      → s.up2 i j k ≡ holds s p
  bit_looked_up cfg is i j k ei ej ek =
      ap (λ (x : ℕ). s.up2 x j k) ei
      ∙ ap (λ (x : ℕ). s.up2 (index0 (Some cfg) p) x k) ej
      ∙ ap (λ (x : ℕ). s.up2 (index0 (Some cfg) p) (index1 (Some cfg) p) x) ek
      ∙ ap (λ (o : Option Config). s.up2 (index0 o p) (index1 o p) (index_d o p)) is
      ∙ bit_holds

-- no configuration has more positions than the largest
pub capacity_most : (o : Option Config) → capacity o ≤ 2 ^ 24
capacity_most None = omega arith
capacity_most (Some c) =
    let m = mul-le (bits c.level1) (bits c.«data») 256 256 (sized c.level1).most (sized c.«data»).most in
    let n = mul-le (bits c.level0) (bits c.level1 * bits c.«data») 256 65536 (sized c.level0).most (omega (arith, m)) in
    omega (arith, n)
