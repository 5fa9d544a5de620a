-- What writing a set as an image gives and leaves.
use Rattle.std.specs.Prelude.{◌≡◌, ℕ, List, [], Some, None, Ok, Err, Option, Result, nat_le}
use Rattle.bitset_interface.specs.Refusals.{Refusal, unless}
use Rattle.packing.specs.Wrote.{Wrote}
use Rattle.packing.specs.declared.Numbers.{Numbers}
use Rattle.serialization.specs.Writing.{image_of, length_of}
use Rattle.immutable_bitset.specs.Refusals.{is_void}
use Rattle.immutable_bitset.specs.declared.error.SerializeError.{SerializeError}
use Rattle.immutable_bitset.specs.declared.error.SerializeError.TheVariants.{Void, NoRoom}

abbrev pub no_room : Refusal
no_room = record { number = 7; values = [] }

-- why an answer refuses, or None where it accepts
abbrev pub serialize_refusal : {A : Type 0} → Result A SerializeError → Option Refusal
serialize_refusal (Ok x) = None
serialize_refusal (Err Void) = Some is_void
serialize_refusal (Err NoRoom) = Some no_room

-- why a set is not written into so many bytes: it is void, or its image is longer
abbrev pub unwritten : Option Numbers → ℕ → Option Refusal
unwritten None room = Some is_void
unwritten (Some m) room = unless (nat_le (length_of m) room) no_room

-- accepted: the answer is the length of the image, the first bytes are the image, and no other changed; refused: all is as it was
abbrev pub Writes : Option Numbers → List ℕ → Result ℕ SerializeError → List ℕ → List ℕ → Type 0
Writes numbers ws (Err e) old new = new ≡ old
Writes None ws (Ok len) old new = ⊥
Writes (Some m) ws (Ok len) old new = (len ≡ length_of m) × Wrote old new 0 (image_of m ws) len
