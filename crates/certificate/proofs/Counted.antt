-- Counting by runs.
use Rattle.std.proofs.Common.{sym, ◌≡◌, ℕ, ◌+◌, ◌-◌, ◌^◌, ◌≤◌, Bool, true, List, [], ◌∷◌, ap, ◌∙◌, arith}
use Rattle.std.specs.List.{fold}
use Rattle.std.specs.Iterator.{Yields}
use Rattle.std.specs.Iterator.Runs.{Run as IterRun, YieldsRun}
use Rattle.bit_block.specs.Ranges.{count}
use Rattle.bit_block.specs.Widths.{capacity}
use Rattle.bit_block.proofs.Counting.{count_none, count_le, count_add, count-zero, count_all, count_past}
use Rattle.bitset_interface.specs.Source.{Source, Lawful, holds}
use Rattle.bitset_interface.proofs.Caps.{capacity_most}
use Rattle.certificate.specs.Runs.{First, Walks}
use Rattle.certificate.specs.declared.runs.Run.{Run}
use Rattle.certificate.specs.declared.runs.Runs.{Runs}
use Rattle.certificate.proofs.Maximal.{run_within}

-- up to the end of the first run, as many more as it is long
count_run : (f : ℕ → Bool) (p : ℕ) (r : Run) → First f p r → count f r.to ≡ count f p + (r.to - r.from)
count_run f p r h =
    let a : p + (r.from - p) ≡ r.from = omega (arith, h.above) in
    let b : r.from + (r.to - r.from) ≡ r.to = omega (arith, h.some) in
    let none : count (λ t. f (p + t)) (r.from - p) ≡ 0 = count-zero (λ t. f (p + t)) (r.from - p) (λ t l. h.before (p + t) (omega arith) (omega arith)) in
    let all : count (λ t. f (r.from + t)) (r.to - r.from) ≡ r.to - r.from = count_all (λ t. f (r.from + t)) (r.to - r.from) (λ t l. h.passes (r.from + t) (omega arith) (omega arith)) in
    omega (arith, ap (count f) a, ap (count f) b, count_add f p (r.from - p), count_add f r.from (r.to - r.from), none, all)

-- how long some runs are, added to a number
abbrev pub long : ℕ → Run → ℕ
long a r = a + (r.to - r.from)

module _ {S : Type 0} (means : S → Source) (law : (s : S) → Lawful (means s)) (s : S) where
  -- a walk over s has passed n held positions
  record Passed (n : ℕ) (w : Runs S) : Type 0 where
    source : w.source ≡ s
    counted : n ≡ count (holds (means s)) w.at
    inside : w.at ≤ capacity (means s).conf

  -- as many more as the runs are long that it gave
  walked : (rs : List Run) (n : ℕ) (w t : Runs S) → Yields (Walks means) w rs t → Passed n w → Passed (fold long n rs) t
  walked [] n w t y h = rw y at h
  walked (r ∷ rs) n w t (next, step, rest) h =
      let first = rw h.source at step.first in
      walked rs (long n r) next t rest (record {
        source = step.source ∙ h.source;
        counted = rw step.reached (omega (arith, h.counted, count_run (holds (means s)) w.at r first));
        inside = rw step.reached (run_within (means s) (law s) w.at r first);
      })

  module _ (run : IterRun (Walks means)) (from : run.from.source ≡ s) (zero : run.from.at ≡ 0) where
    -- none at 0
    start : Passed 0 run.from
    start = record { source = from; counted = rw zero (sym (count_none (holds (means s)))); inside = omega arith }

    -- what a walk has given from 0 on is not more than a configuration can have
    pub most : fold long 0 run.items ≤ 2 ^ 24
    unfolding YieldsRun
    most =
        let end = walked run.items 0 run.from run.gave.0.0 run.gave.0.1 start in
        omega (arith, end.counted, count_le (holds (means s)) run.gave.0.0.at, end.inside, capacity_most (means s).conf)

    -- and to its end, all that is held
    pub all : run.whole ≡ true → fold long 0 run.items ≡ count (holds (means s)) (capacity (means s).conf)
    unfolding YieldsRun
    all whole =
        let end = walked run.items 0 run.from run.gave.0.0 run.gave.0.1 start in
        let none = rw end.source at (run.gave.0.2 whole).1.first in
        end.counted ∙ sym (count_past (holds (means s)) run.gave.0.0.at (capacity (means s).conf) end.inside none)
