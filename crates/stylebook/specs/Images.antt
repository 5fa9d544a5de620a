-- What the image of a source is.
use Rattle.std.specs.Prelude.{◌≡◌, ℕ, List, Option, MatchOption}
use Rattle.bitset_interface.specs.Source.{Source}
use Rattle.packing.specs.declared.Numbers.{Numbers}
use Rattle.packing.specs.Packs.{PackedAs}
use Rattle.serialization.specs.Writing.{image_of}

-- there are numbers, and with the words they are the packing of s
abbrev pub PackedIn : Source → Option Numbers → List ℕ → List ℕ → Type 0
PackedIn s numbers old new = MatchOption numbers ⊥ (λ m. PackedAs s m old new)

-- the bytes are the image of numbers and words that are the packing of s
abbrev pub ImageOf : Source → List ℕ → Type 0
ImageOf s bytes = (m : Numbers) × (old : List ℕ) × (words : List ℕ) × PackedAs s m old words × (bytes ≡ image_of m words)
