-- The masks that a set stores are those that its numbers and words mean.
use Rattle.std.proofs.Common.{◌≡◌, ℕ, ◌+◌, ◌*◌, ◌/◌, ◌%◌, ◌<◌, ◌≤◌, Bool, true, false, ltb, List, get_or, drop, sym, ap, ◌∙◌, ap₂, mul-le-mul_right, mul_assoc, add-mul, arith}
use Rattle.std.proofs.lemmas.List.{get_or-take, get_or-drop}
use Rattle.std.proofs.lemmas.Bool.Decides.{nat_tests}
use Rattle.std.proofs.lemmas.Bool.{and_parts, ltb-true}
use Rattle.bit_block.specs.Bit.{bit_of}
use Rattle.bit_block.specs.Raised.{raised}
use Rattle.bit_block.specs.Ranges.{count}
use Rattle.bit_block.specs.Widths.{bits}
use Rattle.bit_block.proofs.Counting.{count_same, count_past}
use Rattle.bit_block.proofs.Places.{sized}
use Rattle.packing.specs.declared.Numbers.{Numbers}
use Rattle.packing.specs.Meaning.{k1of, kdof, k1-whole, kd-whole, len_of, word_place, held_at, rank, block_place, up_at, Rows, Counts}
use Rattle.packing.specs.Packed.{quarter}
use Rattle.packing.specs.Starts0.{start0}
use Rattle.packing.proofs.Lookups.{place_lt, not_wide}
use Rattle.serialization.specs.Stored.{stored}
use Rattle.vetting.specs.Rules.{bit_in}

-- level 0, where no bit is raised past its width
module _ (m : Numbers) (ws : List ℕ) (past : (t : ℕ) → bits m.config.level0 ≤ t → raised m.level0 t ≡ false) where
  -- the width
  abbrev w : ℕ
  w = bits m.config.level0

  -- the bits of the stored mask
  abbrev top : ℕ → Bool
  top = bit_in (stored m ws).top

  -- below the width they are those of the mask
  top_bit : (t : ℕ) → t < w → top t ≡ raised m.level0 t
  unfolding raised
  top_bit t l =
      ap (λ (x : ℕ). bit_of x (t % 64)) (get_or-take (w / 64) m.level0.words (t / 64) 0 (omega (arith, (sized m.config.level0).whole)))

  -- the stored mask counts as the whole mask does
  pub top_count : (n : ℕ) → n ≤ w → count top n ≡ count (raised m.level0) n
  top_count n h = count_same top (raised m.level0) n (λ t l. top_bit t (omega arith))

  -- all of the raised bits are below the width
  pub top_all : count top w ≡ count (raised m.level0) 256
  top_all = top_count w (omega arith) ∙ sym (count_past (raised m.level0) w 256 (sized m.config.level0).most past)

  -- and so the starts are the same
  pub top_start : (q : ℕ) → start0 top w q ≡ start0 (raised m.level0) w q
  top_start q = let h = top_count (q * 64) in grind (arith, nat_tests, h)

-- bit t of mask r, where a mask has k words
mask_bit : (xs : List ℕ) (w k r t : ℕ) → w ≡ k * 64 → bit_in xs (r * w + t) ≡ bit_of (get_or xs (r * k + t / 64) 0) (t % 64)
mask_bit xs w k r t e =
    let R : ℕ = r * k in
    let a : r * w + t ≡ R * 64 + t = omega (arith, ap (λ (x : ℕ). r * x) e, mul_assoc r k 64) in
    ap (bit_in xs) a ∙ ap₂ (λ (x y : ℕ). bit_of (get_or xs x 0) y) (let b : (R * 64 + t) / 64 ≡ R + t / 64 = omega arith in b) (let b : (R * 64 + t) % 64 ≡ t % 64 = omega arith in b)

-- the count of a test that is bit by bit mask r, and passes nowhere past it
mask_count : (xs : List ℕ) (f : ℕ → Bool) (w k r : ℕ) → w ≡ k * 64 → k ≤ 4
    → ((t : ℕ) → t < k * 64 → f t ≡ bit_of (get_or xs (r * k + t / 64) 0) (t % 64)) → ((t : ℕ) → k * 64 ≤ t → f t ≡ false)
    → count f 256 ≡ count (λ t. bit_in xs (r * w + t)) w
mask_count xs f w k r e small is none =
    count_past f w 256 (omega arith) (λ t l. none t (omega arith))
    ∙ count_same f (λ t. bit_in xs (r * w + t)) w (λ t l. is t (omega arith) ∙ sym (mask_bit xs w k r t e))

-- a bit of a mask that is stored
pub held_bit : (m : Numbers) (ws : List ℕ) (i j : ℕ) → raised m.level0 i ≡ true → j < k1of m * 64
    → held_at m ws i j ≡ bit_of (get_or ws (word_place m i j) 0) (j % 64)
unfolding held_at
held_bit m ws i j up l = grind (arith, nat_tests)

-- what is known of a block that is stored
pub held_parts : (m : Numbers) (ws : List ℕ) (i j : ℕ) → held_at m ws i j ≡ true
    → (raised m.level0 i ≡ true) × (j < k1of m * 64) × (bit_of (get_or ws (word_place m i j) 0) (j % 64) ≡ true)
unfolding held_at
held_parts m ws i j e =
    let a = and_parts (raised m.level0 i) _ e in
    let b = and_parts (ltb j (k1of m * 64)) _ a.1 in
    (a.0, ltb-true j (k1of m * 64) b.0, b.1)

-- a bit of a block that is stored
pub up_bit : (m : Numbers) (ws : List ℕ) (i j t : ℕ) → held_at m ws i j ≡ true → t < kdof m * 64
    → up_at m ws i j t ≡ bit_of (get_or ws (block_place m ws i j + t / 64) 0) (t % 64)
up_bit m ws i j t up l = grind (arith, nat_tests)

-- no bit of a block is raised past its width
pub up_wide : (m : Numbers) (ws : List ℕ) (i j t : ℕ) → kdof m * 64 ≤ t → up_at m ws i j t ≡ false
up_wide m ws i j t l = grind (arith, nat_tests)

module _ (m : Numbers) (ws : List ℕ) (rows : Rows m) (counts : Counts m ws) where
  -- row i counts as the mask that is stored for it
  pub row_count : (i : ℕ) → i < 256 → raised m.level0 i ≡ true
      → count (held_at m ws i) 256 ≡ count (λ t. bit_in (stored m ws).rows (count (raised m.level0) i * bits m.config.level1 + t)) (bits m.config.level1)
  row_count i hi up =
      mask_count (stored m ws).rows (held_at m ws i) (bits m.config.level1) (k1of m) (count (raised m.level0) i) (k1-whole m).0 (k1-whole m).1
      (λ t l. held_bit m ws i t up l
      ∙ ap (λ (x : ℕ). bit_of x (t % 64)) (sym (get_or-take (len_of m) ws (word_place m i t) 0 (place_lt m ws rows counts i hi up t l))))
      (λ t l. not_wide m ws i t l)

  -- block (i, j) counts as the block that is stored at its rank
  pub block_count_lem : (i j : ℕ) → held_at m ws i j ≡ true → rank m ws i j < m.d
      → count (up_at m ws i j) 256 ≡ count (λ t. bit_in (stored m ws).blocks (rank m ws i j * bits m.config.«data» + t)) (bits m.config.«data»)
  unfolding block_place
  block_count_lem i j up l =
      let r : ℕ = rank m ws i j in
      let k : ℕ = kdof m in
      let Q : ℕ = len_of m + quarter (len_of m) in
      mask_count (stored m ws).blocks (up_at m ws i j) (bits m.config.«data») k r (kd-whole m).0 (kd-whole m).1
      (λ t h.
      let y : ℕ = r * k + t / 64 in
      let room : y < m.d * k = omega (arith, mul-le-mul_right k l, add-mul r 1 k) in
      let p : Q + r * k + t / 64 ≡ Q + y = omega arith in
      up_bit m ws i j t up h
      ∙ ap (λ (x : ℕ). bit_of (get_or ws x 0) (t % 64)) p
      ∙ ap (λ (x : ℕ). bit_of x (t % 64)) (sym (get_or-take (m.d * k) (drop Q ws) y 0 room ∙ get_or-drop Q ws y 0)))
      (λ t h. up_wide m ws i j t h)
