-- The runs that a walk gives are every run of what it walks over.
use Rattle.std.specs.Prelude.{◌≡◌, ℕ, Bool, List, [], ◌∷◌, Option, None, Some, refl, Result, Ok, Err, IfOk, Vec, vec_items}
use Rattle.std.specs.Iterator.{Yields}
use Rattle.std.proofs.lemmas.Iterator.{IsCollectResult}
use Rattle.bitset_interface.specs.Source.{Source, holds}
use Rattle.certificate.specs.declared.conditions.Faults.{Faults}
use Rattle.certificate.specs.declared.runs.Run.{Run}
use Rattle.certificate.specs.declared.runs.Runs.{Runs}
use Rattle.certificate.specs.Faults.{fault, FaultWalks}
use Rattle.certificate.specs.Runs.{RunFrom, Walks, past}
use Rattle.stylebook.specs.Listed.{AllRuns}

-- what a step of a walk over the positions that pass a test gives, and where it then stands
record Goes (f g : ℕ → Bool) (at next : ℕ) (r : Option Run) : Type 0 where
  found : RunFrom f at r
  same : g ≡ f
  reached : next ≡ past at r

-- a walk of any kind, each step of which is such a step
module _ {W : Type 0} (Step : W → Option Run → W → Type 0) (test : W → ℕ → Bool) (at : W → ℕ)
    (goes : (s : W) (r : Option Run) (t : W) → Step s r t → Goes (test s) (test t) (at s) (at t) r) where
  -- what a walk gives up to its end
  walked : (rs : List Run) (s t u : W) → Yields Step s rs t → Step t None u → AllRuns (test s) (at s) rs
  walked [] s t u y end = rw y (goes t None u end).found
  walked (r ∷ rs) s t u (next, step, rest) end =
      let g = goes s (Some r) next step in
      (g.found, rw (g.same, g.reached) at (walked rs next t u rest end))

  -- and what a walk is collected to
  all_collected : {Z E : Type 0} (r : Result (Vec Run Z) E) (s : W) → IsCollectResult Step s r → IfOk r (λ v. AllRuns (test s) (at s) (vec_items v))
  all_collected (Ok v) s (rs, (t, y, end), is) = rw is.0 (walked rs s t (end tt).0 y (end tt).1)
  all_collected (Err e) s h = tt

-- a walk over the runs of a source
pub runs_collected : {S Z E : Type 0} (means : S → Source) (r : Result (Vec Run Z) E) (s : Runs S) → IsCollectResult (Walks means) s r
    → IfOk r (λ v. AllRuns (holds (means s.source)) s.at (vec_items v))
runs_collected means = all_collected (Walks means) (λ s. holds (means s.source)) (λ s. s.at)
    (λ s r t step. record { found = step.first; same = rw step.source refl; reached = step.reached })

-- a walk over the runs at which two sources break a condition
pub faults_collected : {A B Z E : Type 0} (first : A → Source) (second : B → Source) (r : Result (Vec Run Z) E) (s : Faults A B) → IsCollectResult (FaultWalks first second) s r
    → IfOk r (λ v. AllRuns (fault s.condition (first s.first) (second s.second)) s.at (vec_items v))
faults_collected first second = all_collected (FaultWalks first second) (λ s. fault s.condition (first s.first) (second s.second)) (λ s. s.at)
    (λ s r t step. record { found = step.found; same = rw (step.condition, step.first_kept, step.second_kept) refl; reached = step.reached })
