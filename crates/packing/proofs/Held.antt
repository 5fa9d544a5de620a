-- Which blocks a source holds.
use Rattle.std.proofs.Common.{◌≡◌, ℕ, ◌<◌, ◌≤◌, Bool, true, false, ltb, Some, None, Option, ap, ⊎_elim, arith}
use Rattle.std.proofs.lemmas.Bool.{cases_Bool, both_ways, lt-ltb}
use Rattle.bit_block.specs.declared.config.Config.{Config}
use Rattle.bit_block.specs.Widths.{w0, w1, wd}
use Rattle.bitset_interface.specs.Source.{Source, Lawful}
use Rattle.bit_block.specs.Ranges.{count}
use Rattle.bit_block.proofs.Places.{sized}
use Rattle.bitset_interface.proofs.Rows.{off}
use Rattle.packing.specs.Packed.{held, blocks, full}
use Rattle.bit_block.proofs.Counting.{count_le}
use Rattle.packing.proofs.Ranges.{never_count, count-some}

-- no mask is wider than 256 bits
pub w0_most : (o : Option Config) → w0 o ≤ 256
w0_most None = omega arith
w0_most (Some c) = (sized c.level0).most

pub w1_most : (o : Option Config) → w1 o ≤ 256
w1_most None = omega arith
w1_most (Some c) = (sized c.level1).most

pub wd_most : (o : Option Config) → wd o ≤ 256
wd_most None = omega arith
wd_most (Some c) = (sized c.«data»).most

-- a block whose bits are not raised holds nothing
pub held_no : (s : Source) (i j : ℕ) → ((t : ℕ) → s.up2 i j t ≡ false) → held s i j ≡ false
unfolding held
held_no s i j h = ap (ltb 0) (never_count (s.up2 i j) 256 h)

module _ (s : Source) (law : Lawful s) (i j : ℕ) where
  pub held_yes : (t : ℕ) → s.up2 i j t ≡ true → held s i j ≡ true
  unfolding held
  held_yes t e = lt-ltb 0 (count (s.up2 i j) 256) (count-some (s.up2 i j) 256 t (omega (arith, law.below2 i j t e, wd_most s.conf)) e)

  pub held_under : s.up1 i j ≡ false → held s i j ≡ false
  held_under e = held_no s i j (λ t. off (s.up2 i j t) (s.up1 i j) (law.under2 i j t) e)

  pub held_past : 256 ≤ j → held s i j ≡ false
  held_past h = held_under (⊎_elim (λ t. absurd (omega (arith, law.below1 i j t, w1_most s.conf))) (λ e. e) (cases_Bool (s.up1 i j)))

-- a row has at most 256 blocks
pub blocks_le : (h : ℕ → ℕ → Bool) (i : ℕ) → blocks h i ≤ 256
unfolding blocks
blocks_le h i = count_le (h i) 256

-- a row that holds a block is below the width of level 0
pub full_under : (s : Source) (law : Lawful s) (i : ℕ) → full (held s) i ≡ true → i < w0 s.conf
unfolding blocks
full_under s law i e =
    ⊎_elim (λ up. law.below0 i up)
    (λ no. absurd (both_ways (full (held s) i) (ap (ltb 0) (never_count (held s i) 256 (λ j. held_under s law i j (off (s.up1 i j) (s.up0 i) (law.under1 i j) no)))) e))
    (cases_Bool (s.up0 i))

-- no row at or past 256 holds a block
pub full-past : (s : Source) (law : Lawful s) (i : ℕ) → 256 ≤ i → full (held s) i ≡ false
unfolding blocks
full-past s law i h =
    ap (ltb 0) (never_count (held s i) 256 (λ j. held_under s law i j (off (s.up1 i j) (s.up0 i) (law.under1 i j)
    (⊎_elim (λ t. absurd (omega (arith, law.below0 i t, w0_most s.conf))) (λ e. e) (cases_Bool (s.up0 i))))))
