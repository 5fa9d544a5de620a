-- How long the parts of what is stored are, and how great its numbers.
use Rattle.std.specs.Prelude.{◌≡◌, ℕ, ◌*◌, ◌^◌, ◌<◌, length, slice_index}
use Rattle.bit_block.specs.declared.config.Config.{Config}
use Rattle.serialization.specs.Layout.{words}
use Rattle.serialization.specs.Stored.{Stored}

-- each part has the words or the starts that the configuration and the numbers n and d ask for
pub record Shaped (c : Config) (r : Stored) : Type 0 where
  pub top : length r.top ≡ words c.level0
  pub starts0 : length r.starts0 ≡ 8
  pub rows : length r.rows ≡ r.n * words c.level1
  pub starts1 : length r.starts1 ≡ r.n * words c.level1
  pub blocks : length r.blocks ≡ r.d * words c.«data»

-- each number fits the bytes that it is stored in
pub record Bounded (r : Stored) : Type 0 where
  pub n : r.n < 65536
  pub d : r.d < 2 ^ 32
  pub top : (t : ℕ) → slice_index r.top t < 2 ^ 64
  pub rows : (t : ℕ) → slice_index r.rows t < 2 ^ 64
  pub starts1 : (t : ℕ) → slice_index r.starts1 t < 65536
  pub blocks : (t : ℕ) → slice_index r.blocks t < 2 ^ 64
