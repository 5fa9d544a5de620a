-- From the least place of a source to its least position.
use Rattle.std.proofs.Common.{◌≡◌, ℕ, ◌+◌, ◌*◌, ◌^◌, ◌<◌, ◌≤◌, Some, None, Option, sym, ap, ◌∙◌, subst, ⊎_elim, arith}
use Rattle.std.proofs.lemmas.Nat.{mul-le, mul-add-lt}
use Rattle.std.proofs.lemmas.Bool.{cases_Bool}
use Rattle.bit_block.specs.Bit.{Least}
use Rattle.bit_block.specs.declared.config.Config.{Config}
use Rattle.bit_block.specs.Widths.{bits, w0, w1, wd, index0, index1, index_d}
use Rattle.bit_block.proofs.Leasts.{least-same}
use Rattle.bit_block.proofs.Places.{sized}
use Rattle.bitset_interface.specs.Source.{Source, Lawful, bit_at, holds}
use Rattle.bitset_interface.specs.Lex.{PlaceLeast}
use Rattle.bitset_interface.proofs.Caps.{bit_holds}
use Rattle.bitset_interface.proofs.Places.{least_at, least_none}

module _ (s : Source) (law : Lawful s) (cfg : Config) (is : Some cfg ≡ s.conf) (p : ℕ) where
  is0 : bits cfg.level0 ≡ w0 s.conf
  is0 = ap w0 is

  is1 : bits cfg.level1 ≡ w1 s.conf
  is1 = ap w1 is

  isd : bits cfg.«data» ≡ wd s.conf
  isd = ap wd is

  pos1 : 0 < w1 s.conf
  pos1 = omega (arith, is1, (sized cfg.level1).least)

  posd : 0 < wd s.conf
  posd = omega (arith, isd, (sized cfg.«data»).least)

  module _ (i j k : ℕ) (ei : i ≡ index0 (Some cfg) p) (ej : j ≡ index1 (Some cfg) p) (ek : k ≡ index_d (Some cfg) p) where
    -- the same indices, in the source's own configuration
    moved : (r : Option (ℕ × ℕ × ℕ)) → PlaceLeast s.up2 i j k r → PlaceLeast s.up2 (index0 s.conf p) (index1 s.conf p) (index_d s.conf p) r
    moved r h =
        subst (λ (o : Option Config). PlaceLeast s.up2 (index0 o p) (index1 o p) (index_d o p) r) is
        (subst (λ (x : ℕ). PlaceLeast s.up2 (index0 (Some cfg) p) (index1 (Some cfg) p) x r) ek
        (subst (λ (x : ℕ). PlaceLeast s.up2 (index0 (Some cfg) p) x k r) ej
        (subst (λ (x : ℕ). PlaceLeast s.up2 x j k r) ei h)))

    -- no place is left: no position is
    pub next_none : PlaceLeast s.up2 i j k None → Least (holds s) p None
    next_none h = least-same (bit_at s) (holds s) (bit_holds s law) p None (least_none (w1 s.conf) (wd s.conf) pos1 posd s.up2 p (moved None h))

    -- nothing is held in a row past the last
    pub next_past : bits cfg.level0 ≤ i → Least (holds s) p None
    next_past h = next_none (λ a b c u.
        ⊎_elim
        (λ up. absurd (let l = law.below0 a (law.under1 a b (law.under2 a b c up)) in
        ⊎_elim (λ x. omega (arith, l, is0, x)) (λ x. omega (arith, l, is0, x.0)) u))
        (λ e. e)
        (cases_Bool (s.up2 a b c)))

    module _ (w v : ℕ) (ew : w ≡ bits cfg.level1) (ev : v ≡ bits cfg.«data») (x y z : ℕ) (h : PlaceLeast s.up2 i j k (Some (x, y, z))) where
      ew' : w1 s.conf ≡ w
      ew' = sym (ew ∙ is1)

      ev' : wd s.conf ≡ v
      ev' = sym (ev ∙ isd)

      hx : x < 256
      hx = omega (arith, law.below0 x (law.under1 x y (law.under2 x y z h.1)), is0, (sized cfg.level0).most)

      hy : y < w1 s.conf
      hy = law.below1 x y (law.under2 x y z h.1)

      hz : z < wd s.conf
      hz = law.below2 x y z h.1

      -- the position of the least place fits
      pub place_fits : x * (w * v) + (y * v + z) < 2 ^ 32
      place_fits =
          let m = mul-le w v 256 256 (omega (arith, ew, (sized cfg.level1).most)) (omega (arith, ev, (sized cfg.«data»).most)) in
          let n = mul-le x (w * v) 256 65536 (omega (arith, hx)) (omega (arith, m)) in
          let q = mul-add-lt y v z w (omega (arith, hy, ew')) (omega (arith, hz, ev')) in
          omega (arith, m, n, q)

      -- and is the least position
      pub next_some : Least (holds s) p (Some (x * (w * v) + (y * v + z)))
      next_some =
          subst (λ (a : ℕ). Least (holds s) p (Some (x * (a * v) + (y * v + z)))) ew'
          (subst (λ (b : ℕ). Least (holds s) p (Some (x * (w1 s.conf * b) + (y * b + z)))) ev'
          (least-same (bit_at s) (holds s) (bit_holds s law) p (Some (x * (w1 s.conf * wd s.conf) + (y * wd s.conf + z)))
          (least_at (w1 s.conf) (wd s.conf) pos1 posd x y z hy hz s.up2 p (moved (Some (x, y, z)) h))))
