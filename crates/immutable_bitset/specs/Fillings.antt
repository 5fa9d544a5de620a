-- What a filling leaves in the words.
use Rattle.std.specs.Prelude.{◌≡◌, ℕ, ◌<◌, Bool, true, List, Option, MatchOption}
use Rattle.bit_block.specs.Raised.{raised}
use Rattle.bit_block.specs.declared.mask.Mask.{Mask}
use Rattle.bitset_interface.specs.Source.{Source}
use Rattle.packing.specs.declared.Numbers.{Numbers}
use Rattle.packing.specs.Packs.{PackedAs}

-- filled: the words are the packing of s and have its numbers; not filled: the words are as they were
abbrev pub Packs : Source → Option Numbers → List ℕ → List ℕ → Type 0
Packs s numbers old new = MatchOption numbers (new ≡ old) (λ m. PackedAs s m old new)

-- each mask that a call may give for a place where `which` passes has these bits
abbrev pub HaveBits : (ℕ → Bool) → (ℕ → Mask → Type 0) → (ℕ → ℕ → Bool) → Type 0
HaveBits which gives bits = (i : ℕ) (m : Mask) → i < 256 → which i ≡ true → gives i m → (t : ℕ) → raised m t ≡ bits i t
