-- The image of what is stored, version 3, and what any bytes store when they are read as an image.
use Rattle.std.specs.Prelude.{ℕ, ◌*◌, List, ◌++◌, take, drop, replicate}
use Rattle.bit_block.specs.declared.config.Config.{Config}
use Rattle.reader.specs.LittleEndian.{bytes, value, laid, numbers}
use Rattle.serialization.specs.Layout.{size, words, padding, header_size, level0_at, starts0_at, starts0_end, level1_at, starts1_at, starts1_end, data_at}
use Rattle.serialization.specs.Stored.{Stored}

abbrev pub version : ℕ
version = 3

-- zeros up to the next multiple of a
abbrev pub zeros : ℕ → ℕ → List ℕ
zeros a at = replicate (padding a at) 0

-- the parts of an image, each with the padding before it
abbrev pub header : Stored → List ℕ
header r = bytes 2 version ++ bytes 2 r.n ++ bytes 4 r.d

abbrev pub level0_part : Config → Stored → List ℕ
level0_part c r = zeros (size c.level0) header_size ++ laid 8 r.top ++ r.starts0

abbrev pub level1_part : Config → Stored → List ℕ
level1_part c r = zeros (size c.level1) (starts0_end c) ++ laid 8 r.rows ++ laid 2 r.starts1

abbrev pub data_part : Config → Stored → List ℕ
data_part c r = zeros (size c.«data») (starts1_end c r.n) ++ laid 8 r.blocks

unfoldable pub image : Config → Stored → List ℕ
image c r = header r ++ level0_part c r ++ level1_part c r ++ data_part c r

-- the numbers that bytes declare
abbrev pub version_in : List ℕ → ℕ
version_in xs = value (take 2 xs)

abbrev pub n_in : List ℕ → ℕ
n_in xs = value (take 2 (drop 2 xs))

abbrev pub d_in : List ℕ → ℕ
d_in xs = value (take 4 (drop 4 xs))

unfoldable pub reading : Config → List ℕ → Stored
reading c xs = record {
  n = n_in xs;
  d = d_in xs;
  top = numbers 8 (words c.level0) (drop (level0_at c) xs);
  starts0 = take 8 (drop (starts0_at c) xs);
  rows = numbers 8 (n_in xs * words c.level1) (drop (level1_at c) xs);
  starts1 = numbers 2 (n_in xs * words c.level1) (drop (starts1_at c (n_in xs)) xs);
  blocks = numbers 8 (d_in xs * words c.«data») (drop (data_at c (n_in xs)) xs);
}
