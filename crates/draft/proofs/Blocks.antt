-- Blocks of a draft: where their words stand and which positions their bits are.
use Rattle.std.proofs.Common.{◌≡◌, ℕ, ◌+◌, ◌*◌, ◌/◌, ◌%◌, ◌<◌, Bool, ◌&&◌, ltb, List, get_or, Some, sym, ap, ◌∙◌, mul_assoc, add-mul, arith}
use Rattle.std.proofs.lemmas.Bool.{lt-ltb, and_from}
use Rattle.bit_block.specs.Bit.{bit_of}
use Rattle.bit_block.specs.declared.config.Config.{Config}
use Rattle.bit_block.specs.Widths.{bits}
use Rattle.bit_block.proofs.Places.{sized}
use Rattle.bitset_interface.specs.Spread.{position}
use Rattle.draft.specs.Drafts.{stored, marked}

module _ (c : Config) (i j l d : ℕ) (el : l ≡ bits c.level1) (ed : d ≡ bits c.«data») where
  -- the position of bit t, by the block's first word
  flat : (t : ℕ) → position (Some c) i j t ≡ (i * l + j) * (d / 64) * 64 + t
  flat t =
      let w : d / 64 * 64 ≡ d = ap (λ (x : ℕ). x / 64 * 64) ed ∙ (sized c.«data»).whole ∙ sym ed in
      let e : i * (bits c.level1 * bits c.«data») + (j * bits c.«data» + t) ≡ i * (l * d) + (j * d + t) =
      ap (λ (x : ℕ). i * (x * bits c.«data») + (j * bits c.«data» + t)) (sym el) ∙ ap (λ (x : ℕ). i * (l * x) + (j * x + t)) (sym ed) in
      let m : (i * l + j) * (d / 64) * 64 ≡ (i * l + j) * d = mul_assoc (i * l + j) (d / 64) 64 ∙ ap (λ (x : ℕ). (i * l + j) * x) w in
      omega (arith, e, m, add-mul (i * l) j d, mul_assoc i l d)

  -- bit t of the block is the stored bit of its position
  pub data_is : (xs : List ℕ) (t : ℕ) → i < bits c.level0 → j < bits c.level1
      → (ltb t (bits c.«data») && bit_of (get_or xs ((i * l + j) * (d / 64) + t / 64) 0) (t % 64)) ≡ (marked (Some c) xs).up2 i j t
  unfolding stored
  data_is xs t hi hj =
      let B : ℕ = (i * l + j) * (d / 64) in
      let p : ℕ = position (Some c) i j t in
      let q : p / 64 ≡ B + t / 64 = omega (arith, flat t) in
      let r : p % 64 ≡ t % 64 = omega (arith, flat t) in
      ap (λ (x : ℕ). ltb t (bits c.«data») && bit_of (get_or xs x 0) (t % 64)) (sym q)
      ∙ ap (λ (x : ℕ). ltb t (bits c.«data») && bit_of (get_or xs (p / 64) 0) x) (sym r)
      ∙ ap (λ (b : Bool). b && (ltb t (bits c.«data») && bit_of (get_or xs (p / 64) 0) (p % 64)))
      (sym (and_from (ltb i (bits c.level0)) (ltb j (bits c.level1)) (lt-ltb i (bits c.level0) hi) (lt-ltb j (bits c.level1) hj)))
