-- What loading an image leaves in the words.
use Rattle.std.specs.Prelude.{◌≡◌, ℕ, List, Option, MatchOption, length, drop, replicate}
use Rattle.bit_block.specs.declared.config.Config.{Config}
use Rattle.packing.specs.declared.Numbers.{Numbers}
use Rattle.serialization.specs.Bodies.{needed_of}
use Rattle.serialization.specs.Image.{reading}
use Rattle.serialization.specs.Stored.{stored}

-- the numbers and the words store what the bytes store, and the words behind those of the set are as they were
pub record LoadedAs (c : Config) (xs : List ℕ) (m : Numbers) (old new : List ℕ) : Type 0 where
  pub conf : m.config ≡ c
  pub stores : reading c xs ≡ stored m new
  pub long : length new ≡ length old
  pub rest : drop (needed_of m) new ≡ drop (needed_of m) old

-- loaded: the words are those of the bytes' set and have its numbers; not loaded: each word is 0
abbrev pub Loads : Config → List ℕ → Option Numbers → List ℕ → List ℕ → Type 0
Loads c xs numbers old new = MatchOption numbers (new ≡ replicate (length old) 0) (λ m. LoadedAs c xs m old new)
