-- What a source means: its configuration or void, whether it is trusted, and the raised bits of its masks on three levels.
use Rattle.std.specs.Prelude.{◌≡◌, ℕ, ◌<◌, Bool, true, ◌&&◌, Option, nat_lt}
use Rattle.bit_block.specs.declared.config.Config.{Config}
use Rattle.bit_block.specs.Widths.{w0, w1, wd, capacity, index0, index1, index_d}

-- up0 i: bit i of the level-0 mask; up1 i j: bit j of level-1 mask i; up2 i j k: bit k of data block (i, j)
pub record Source : Type 0 where
  pub conf : Option Config
  pub trust : Bool
  pub up0 : ℕ → Bool
  pub up1 : ℕ → ℕ → Bool
  pub up2 : ℕ → ℕ → ℕ → Bool

-- the laws: no bit at or above a level's width; a level-1 mask only under a raised level-0 bit, and a block only under
-- a raised level-1 bit; and, where the source is trusted, no raised bit over nothing
pub record Lawful (s : Source) : Type 0 where
  pub below0 : (i : ℕ) → s.up0 i ≡ true → i < w0 s.conf
  pub below1 : (i j : ℕ) → s.up1 i j ≡ true → j < w1 s.conf
  pub below2 : (i j k : ℕ) → s.up2 i j k ≡ true → k < wd s.conf
  pub under1 : (i j : ℕ) → s.up1 i j ≡ true → s.up0 i ≡ true
  pub under2 : (i j k : ℕ) → s.up2 i j k ≡ true → s.up1 i j ≡ true
  pub full0 : (i : ℕ) → s.trust ≡ true → s.up0 i ≡ true → (j : ℕ) × (s.up1 i j ≡ true)
  pub full1 : (i j : ℕ) → s.trust ≡ true → s.up1 i j ≡ true → (k : ℕ) × (s.up2 i j k ≡ true)

-- the data bit that position p has
abbrev pub bit_at : Source → ℕ → Bool
bit_at s p = s.up2 (index0 s.conf p) (index1 s.conf p) (index_d s.conf p)

-- whether a source holds position p: p is below the capacity, and its bit is raised
abbrev pub holds : Source → ℕ → Bool
holds s p = nat_lt p (capacity s.conf) && bit_at s p
