-- The runs of positions that pass a test, one after another.
use Rattle.std.specs.Prelude.{ℕ, Bool, List, [], ◌∷◌, None}
use Rattle.certificate.specs.declared.runs.Run.{Run}
use Rattle.certificate.specs.Runs.{First, RunFrom}

-- the list has every run at or above p, in order
abbrev pub AllRuns : (ℕ → Bool) → ℕ → List Run → Type 0
AllRuns f p [] = RunFrom f p None
AllRuns f p (r ∷ rs) = First f p r × AllRuns f r.to rs
