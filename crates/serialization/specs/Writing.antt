-- The image of a set, written from the start of lent bytes.
use Rattle.std.specs.Prelude.{◌≡◌, ℕ, Bool, cond, ◌&&◌, List, length, nat_le}
use Rattle.packing.specs.declared.Numbers.{Numbers}
use Rattle.packing.specs.Meaning.{k1of, kdof}
use Rattle.packing.specs.Packed.{needed}
use Rattle.packing.specs.Wrote.{Wrote}
use Rattle.serialization.specs.Image.{image}
use Rattle.serialization.specs.Layout.{image_length}
use Rattle.serialization.specs.Stored.{stored}
use Rattle.serialization.specs.declared.write.Cursor.{Cursor}

-- the bytes ys were put into lent bytes, from their place on
pub record Puts (old new : Cursor) (ys : List ℕ) : Type 0 where
  pub lender : new.buffer.ghost_name ≡ old.buffer.ghost_name
  pub wrote : Wrote old.buffer.now new.buffer.now old.at ys new.at

-- the image of a set, and its length
abbrev pub image_of : Numbers → List ℕ → List ℕ
image_of m ws = image m.config (stored m ws)

abbrev pub length_of : Numbers → ℕ
length_of m = image_length m.config m.n m.d

-- whether the words are all there and the image fits so many bytes
abbrev pub writable : Numbers → List ℕ → ℕ → Bool
writable m ws room = nat_le (needed (k1of m) (kdof m) m.n m.d) (length ws) && nat_le (length_of m) room

-- written: the first bytes are the image and no other changed; else all is as it was
abbrev pub Written : Bool → List ℕ → ℕ → List ℕ → List ℕ → Type 0
Written ok img len old new = cond ok (Wrote old new 0 img len) (new ≡ old)
