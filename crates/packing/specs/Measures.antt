-- What a walk over a source finds: h i j says whether block (i, j) holds something.
use Rattle.std.specs.Prelude.{◌≡◌, ℕ, ◌<◌, Bool, slice_index, slice_index_or}
use Rattle.bit_block.specs.Raised.{raised}
use Rattle.bit_block.specs.Widths.{bits}
use Rattle.bit_block.specs.declared.config.Config.{Config}
use Rattle.bit_block.specs.declared.mask.Mask.{Mask}
use Rattle.packing.specs.declared.Found.{Found}
use Rattle.packing.specs.declared.Numbers.{Numbers}
use Rattle.packing.specs.Packed.{full, row_count, block_count}
use Rattle.packing.specs.Starts0.{start0}

pub record Measured (h : ℕ → ℕ → Bool) (f : Found) : Type 0 where
  pub top : (i : ℕ) → raised f.level0 i ≡ full h i
  pub row : (i : ℕ) (d : Mask) → i < 256 → (j : ℕ) → raised (slice_index_or f.rows i d) j ≡ h i j
  pub rows_are : f.n ≡ row_count h
  pub blocks_are : f.d ≡ block_count h

-- m has the numbers of what was found, for a configuration
pub record NumbersFound (f : Found) (c : Config) (m : Numbers) : Type 0 where
  pub config : m.config ≡ c
  pub level0 : m.level0 ≡ f.level0
  pub starts : (q : ℕ) → slice_index m.starts q ≡ start0 (raised f.level0) (bits c.level0) q
  pub n : m.n ≡ f.n
  pub d : m.d ≡ f.d
