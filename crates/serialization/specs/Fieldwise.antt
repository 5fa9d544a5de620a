-- What the fields of an image give, read one after another.
use Rattle.std.specs.Prelude.{◌≡◌, ℕ, ◌+◌, ◌-◌, ◌<◌, cond, List, ◌++◌, take, drop, replicate, nat_lt, slice_index}
use Rattle.bit_block.specs.declared.config.Width.{Width}
use Rattle.bit_block.specs.declared.config.Config.{Config}
pub use Rattle.packing.specs.StartWords.{four_of}
use Rattle.packing.specs.declared.Numbers.{Numbers}
use Rattle.reader.specs.LittleEndian.{numbers}
use Rattle.serialization.specs.Layout.{size, words, padding, header_size}
use Rattle.serialization.specs.declared.fields.Header.{Header}

-- a mask of so many words from these bytes, its other words 0
abbrev pub mask_in : Width → List ℕ → List ℕ
mask_in w xs = numbers 8 (words w) xs ++ replicate (4 - words w) 0

-- the lesser of two numbers
abbrev pub least : ℕ → ℕ → ℕ
least a b = cond (nat_lt a b) a b

-- each of these is a number of 16 bits
abbrev pub Starts16 : List ℕ → Type 0
Starts16 xs = (t : ℕ) → slice_index xs t < 65536

-- the numbers of a set, from its header and the bytes that follow it
pub record TopIn (c : Config) (h : Header) (xs : List ℕ) (m : Numbers) : Type 0 where
  pub conf : m.config ≡ c
  pub mask : m.level0.words ≡ mask_in c.level0 (drop (padding (size c.level0) header_size) xs)
  pub starts : m.starts ≡ take 8 (drop (padding (size c.level0) header_size + size c.level0) xs)
  pub rows_are : m.n ≡ h.n
  pub blocks_are : m.d ≡ h.d
