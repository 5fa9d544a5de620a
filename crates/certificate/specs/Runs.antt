-- Runs of positions that pass a test.
use Rattle.std.specs.Prelude.{◌≡◌, ℕ, ◌<◌, ◌≤◌, Bool, true, false, cond, ◌||◌, List, length, Some, None, Option, nat_le}
use Rattle.bit_block.specs.Widths.{capacity}
use Rattle.bitset_interface.specs.Source.{Source, holds}
use Rattle.draft.specs.Drafts.{stored}
use Rattle.certificate.specs.declared.runs.Run.{Run}
use Rattle.certificate.specs.declared.runs.Runs.{Runs}

-- r.from..r.to passes whole and could not be longer, and nothing passes from p to r.from
pub record First (f : ℕ → Bool) (p : ℕ) (r : Run) : Type 0 where
  pub above : p ≤ r.from
  pub some : r.from < r.to
  pub before : (t : ℕ) → p ≤ t → t < r.from → f t ≡ false
  pub passes : (t : ℕ) → r.from ≤ t → t < r.to → f t ≡ true
  pub ends : f r.to ≡ false

-- the first run at or above p, or none where nothing passes there
abbrev pub RunFrom : (ℕ → Bool) → ℕ → Option Run → Type 0
RunFrom f p None = (t : ℕ) → p ≤ t → f t ≡ false
RunFrom f p (Some r) = First f p r

-- the end of the run that was found; where none was, the same place
abbrev pub past : ℕ → Option Run → ℕ
past at None = at
past at (Some r) = r.to

-- what a step of a walk gives: the first run from the place that was reached, and then its end is reached
pub record Walks {S : Type 0} (means : S → Source) (s : Runs S) (r : Option Run) (t : Runs S) : Type 0 where
  pub first : RunFrom (holds (means s.source)) s.at r
  pub source : t.source ≡ s.source
  pub reached : t.at ≡ past s.at r

-- `new` is `old` with the positions that s holds added
pub record Adds (s : Source) (old new : List ℕ) : Type 0 where
  pub long : length new ≡ length old
  pub bits : (p : ℕ) → stored new p ≡ (holds s p || stored old p)

-- what adding s to a draft of so many positions does: nothing where the source has more
abbrev pub Added : Source → ℕ → List ℕ → List ℕ → Type 0
Added s room old new = cond (nat_le (capacity s.conf) room) (Adds s old new) (new ≡ old)
