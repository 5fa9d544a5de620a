-- Where the fields of an image stand, from its start. A mask's alignment is its size.
use Rattle.std.specs.Prelude.{ℕ, ◌+◌, ◌-◌, ◌*◌, ◌/◌, ◌%◌, List, [], ◌∷◌, ◌++◌}
use Rattle.bit_block.specs.Widths.{bits}
use Rattle.bit_block.specs.declared.config.Width.{Width}
use Rattle.bit_block.specs.declared.config.Config.{Config}
use Rattle.reader.specs.Fields.{Run, one, many}

-- the bytes and the words of a mask
abbrev pub size : Width → ℕ
size w = bits w / 8

abbrev pub words : Width → ℕ
words w = bits w / 64

-- how many bytes lie between a place and the next multiple of a
unfoldable pub padding : ℕ → ℕ → ℕ
padding a at = (a - at % a) % a

-- version, n and d
abbrev pub header_size : ℕ
header_size = 8

-- the level-0 mask and its starts
abbrev pub level0_at : Config → ℕ
level0_at c = header_size + padding (size c.level0) header_size

abbrev pub starts0_at : Config → ℕ
starts0_at c = level0_at c + size c.level0

abbrev pub starts0_end : Config → ℕ
starts0_end c = starts0_at c + 8

-- the n level-1 masks, and one start for each of their words
abbrev pub level1_at : Config → ℕ
level1_at c = starts0_end c + padding (size c.level1) (starts0_end c)

abbrev pub starts1_at : Config → ℕ → ℕ
starts1_at c n = level1_at c + n * size c.level1

abbrev pub starts1_end : Config → ℕ → ℕ
starts1_end c n = starts1_at c n + n * words c.level1 * 2

-- the d blocks
abbrev pub data_at : Config → ℕ → ℕ
data_at c n = starts1_end c n + padding (size c.«data») (starts1_end c n)

abbrev pub image_length : Config → ℕ → ℕ → ℕ
image_length c n d = data_at c n + d * size c.«data»

-- the fields in their order: each is one number, one mask or one padding
abbrev pub header_fields : List Run
header_fields = one 2 ∷ one 2 ∷ one 4 ∷ []

abbrev pub top_fields : Config → List Run
top_fields c = one (padding (size c.level0) header_size) ∷ one (size c.level0) ∷ many 8 1 ∷ one (padding (size c.level1) (starts0_end c)) ∷ []

abbrev pub rest_fields : Config → ℕ → ℕ → List Run
rest_fields c n d = many n (size c.level1) ∷ many (n * words c.level1) 2 ∷ one (padding (size c.«data») (starts1_end c n)) ∷ many d (size c.«data») ∷ []

abbrev pub all_fields : Config → ℕ → ℕ → List Run
all_fields c n d = header_fields ++ top_fields c ++ rest_fields c n d
