-- What an image says of the set that it was written from.
use Rattle.std.specs.Prelude.{◌≡◌, ℕ, ◌^◌, ◌<◌, ◌≤◌, List, ◌++◌, length, slice_index}
use Rattle.bitset_interface.specs.Source.{holds}
use Rattle.packing.specs.declared.Numbers.{Numbers}
use Rattle.packing.specs.Meaning.{Sound, k1of, kdof}
use Rattle.packing.specs.Packed.{needed}
use Rattle.packing.specs.Views.{viewed}
use Rattle.reader.specs.Streams.{Stream}
use Rattle.serialization.specs.Image.{reading}
use Rattle.serialization.specs.Writing.{image_of}
use Rattle.serialization.specs.Stored.{stored}
use Rattle.serialization.specs.Outcomes.{accepted_after}
use Rattle.vetting.specs.Outcomes.{outcome}

-- each word is one of 64 bits
abbrev pub Words64 : List ℕ → Type 0
Words64 ws = (t : ℕ) → slice_index ws t < 2 ^ 64

-- any reader with the image to come, whatever follows it, gives the set back into words that suffice, and stands behind it
abbrev pub Reloads : Numbers → List ℕ → Type 0
Reloads m ws = (lent : ℕ) (s : Stream) (rest : List ℕ) → s.front.bytes ≡ image_of m ws ++ rest → needed (k1of m) (kdof m) m.n m.d ≤ lent
    → (outcome m.config lent s ≡ accepted_after (length (image_of m ws))) × (reading m.config s.front.bytes ≡ stored m ws)

-- two sets hold the same positions
abbrev pub SamePositions : Numbers → List ℕ → Numbers → List ℕ → Type 0
SamePositions m ws k vs = (p : ℕ) → holds (viewed m ws) p ≡ holds (viewed k vs) p

-- numbers and words as a set in memory has them: each word is one of 64 bits, the mask has four and there are eight starts
pub record Real (m : Numbers) (ws : List ℕ) : Type 0 where
  pub words : Words64 ws
  pub top : Words64 m.level0.words
  pub four : length m.level0.words ≡ 4
  pub eight : length m.starts ≡ 8

-- sets of one configuration have equal images exactly when they hold the same positions
abbrev pub EqualImages : Numbers → List ℕ → Type 0
EqualImages m ws = (k : Numbers) (vs : List ℕ) → Real k vs → Sound k vs → k.config ≡ m.config
    → (image_of m ws ≡ image_of k vs → SamePositions m ws k vs) × (SamePositions m ws k vs → image_of m ws ≡ image_of k vs)
