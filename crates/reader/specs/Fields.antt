-- Fields read one after another, each by one request. A run is so many fields of one size.
use Rattle.std.specs.Prelude.{◌≡◌, ℕ, ◌+◌, ◌-◌, ◌*◌, ◌/◌, ◌<◌, ◌≤◌, cond, List, [], ◌∷◌, Some, None, Ok, Err, Option, Result, nat_le}
use Rattle.reader.specs.declared.fault.ReadFault.{ReadFault}
use Rattle.reader.specs.Streams.{Stream, after, left}

pub record Run : Type 0 where
  pub fields : ℕ
  pub size : ℕ

-- one field, and many
abbrev pub one : ℕ → Run
one k = record { fields = 1; size = k }

abbrev pub many : ℕ → ℕ → Run
many c k = record { fields = c; size = k }

abbrev pub bytes_of : Run → ℕ
bytes_of r = r.fields * r.size

-- the bytes of all fields
unfoldable pub size_of : List Run → ℕ
size_of [] = 0
size_of (r ∷ rs) = bytes_of r + size_of rs

-- of so many bytes to come, how many are read with whole fields
unfoldable pub whole : ℕ → List Run → ℕ
whole a [] = 0
whole a (r ∷ rs) = cond (nat_le (bytes_of r) a) (bytes_of r + whole (a - bytes_of r) rs) (a / r.size * r.size)

-- where the first field ends that cannot be read whole
unfoldable pub edge : ℕ → List Run → ℕ
edge a [] = 0
edge a (r ∷ rs) = cond (nat_le (bytes_of r) a) (bytes_of r + edge (a - bytes_of r) rs) (a / r.size * r.size + r.size)

-- all the fields were read, or the reader refused one with its fault and stands after the last that was read whole
abbrev pub Took : List Run → Stream → Option ReadFault → Stream → Type 0
Took rs s None t = (size_of rs ≤ left s) × (t ≡ after (size_of rs) s)
Took rs s (Some e) t = (left s < size_of rs) × (t ≡ after (whole (left s) rs) s) × (e ≡ s.front.fault (edge (left s) rs))

-- the fault of an answer, or None where there is none
abbrev pub faulted : {A : Type 0} → Result A ReadFault → Option ReadFault
faulted (Ok x) = None
faulted (Err e) = Some e

-- what an answer gives where it gives something
abbrev pub Gives : {A E : Type 0} → Result A E → (A → Type 0) → Type 0
Gives (Ok x) P = P x
Gives (Err e) P = Unit {0}
