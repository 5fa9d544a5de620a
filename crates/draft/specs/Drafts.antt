-- A draft: one bit a position in lent words. Every bit of levels 0 and 1 is raised, and block after block lies in the words.
use Rattle.std.specs.Prelude.{◌≡◌, ℕ, ◌+◌, ◌*◌, ◌/◌, ◌%◌, ◌≤◌, Bool, cond, ◌&&◌, ◌⊎◌, List, ◌++◌, length, drop, replicate, Some, None, Option, nat_le, nat_lt, slice_index}
use Rattle.bit_block.specs.Bit.{bit_of}
use Rattle.bit_block.specs.declared.config.Config.{Config}
use Rattle.bit_block.specs.Widths.{capacity}
use Rattle.bitset_interface.specs.Source.{Source, Lawful}
use Rattle.bitset_interface.specs.Spread.{position, spread, spread_lawful}

-- the bit of position p in words: bit p mod 64 of word p div 64
unfoldable pub stored : List ℕ → ℕ → Bool
stored xs p = bit_of (slice_index xs (p / 64)) (p % 64)

-- how many words a draft takes
abbrev pub draft_words : Config → ℕ
draft_words c = capacity (Some c) / 64

-- the configuration of a draft over n words: void where they are too few
abbrev pub fitting : Config → ℕ → Option Config
fitting c n = cond (nat_le (draft_words c) n) (Some c) None

-- words as a source: the bit of each position
abbrev pub marked : Option Config → List ℕ → Source
marked o xs = spread o (λ i j k. stored xs (position o i j k))

-- a draft of a configuration over words
abbrev pub draft : Config → List ℕ → Source
draft c xs = marked (fitting c (length xs)) xs

pub draft_lawful : (c : Config) (xs : List ℕ) → Lawful (draft c xs)
draft_lawful c xs = spread_lawful (fitting c (length xs)) (λ i j k. stored xs (position (fitting c (length xs)) i j k))

-- the words of a new draft: its own are zero, those behind it are left; too few are all left
abbrev pub cleared : Config → List ℕ → List ℕ
cleared c xs = cond (nat_le (draft_words c) (length xs)) (replicate (draft_words c) 0 ++ drop (draft_words c) xs) xs

-- whether p lies in from..to
abbrev pub within : ℕ → ℕ → ℕ → Bool
within from to p = nat_le from p && nat_lt p to

-- `new` is `old` with the bits of from..to set to `on`; every other bit is as it was, and each word with none of them
pub record Spanned (on : Bool) (from to : ℕ) (old new : List ℕ) : Type 0 where
  pub long : length new ≡ length old
  pub bits : (p : ℕ) → stored new p ≡ cond (within from to p) on (stored old p)
  pub kept : (w : ℕ) → (w * 64 + 64 ≤ from) ⊎ (to ≤ w * 64) → slice_index new w ≡ slice_index old w

-- whether a range can be marked
abbrev pub good_range : Option Config → ℕ → ℕ → Bool
good_range o from to = nat_le from to && nat_le to (capacity o)

-- what a call that sets from..to does to the words: nothing where it refuses
abbrev pub Sets : Bool → Option Config → ℕ → ℕ → List ℕ → List ℕ → Type 0
Sets on o from to old new = cond (good_range o from to) (Spanned on from to old new) (new ≡ old)
