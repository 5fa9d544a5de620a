-- Where two sources of one configuration break a condition.
use Rattle.std.specs.Prelude.{◌≡◌, ℕ, Bool, not, ◌&&◌, Option}
use Rattle.bit_block.specs.Bit.{exclusive}
use Rattle.bit_block.specs.Widths.{live}
use Rattle.bitset_interface.specs.Source.{Source, holds}
use Rattle.certificate.specs.declared.conditions.Condition.{Condition}
use Rattle.certificate.specs.declared.conditions.Condition.TheVariants.{Inside, Same}
use Rattle.certificate.specs.declared.conditions.Faults.{Faults}
use Rattle.certificate.specs.declared.runs.Run.{Run}
use Rattle.certificate.specs.Runs.{RunFrom, past}

-- a position of the first that the second lacks; a position that just one has
abbrev pub breaks : Condition → Bool → Bool → Bool
breaks Inside a b = a && not b
breaks Same a b = exclusive a b

abbrev pub fault : Condition → Source → Source → ℕ → Bool
fault c a b p = live a.conf b.conf && breaks c (holds a p) (holds b p)

-- what a step of a walk over faults gives: the first run from the place that was reached, and then its end is reached
pub record FaultWalks {A B : Type 0} (first : A → Source) (second : B → Source) (s : Faults A B) (r : Option Run) (t : Faults A B) : Type 0 where
  pub found : RunFrom (fault s.condition (first s.first) (second s.second)) s.at r
  pub condition : t.condition ≡ s.condition
  pub first_kept : t.first ≡ s.first
  pub second_kept : t.second ≡ s.second
  pub reached : t.at ≡ past s.at r
