-- Where a run of faults ends.
use mathlib.Core.Path.{fun_ext}
use Rattle.std.proofs.Common.{◌≡◌, ℕ, ◌≤◌, false, not, ◌&&◌, ◌||◌, refl}
use Rattle.bit_block.specs.Bit.{exclusive}
use Rattle.bit_block.specs.Widths.{capacity, shared}
use Rattle.bitset_interface.specs.Source.{Source, Lawful, holds}
use Rattle.ops.specs.Layer.{without, one_of}
use Rattle.ops.specs.Lawfulness.{without_lawful, one_of_lawful}
use Rattle.ops.proofs.Held.{layer_holds}
use Rattle.certificate.specs.Faults.{fault}
use Rattle.certificate.specs.Runs.{First}
use Rattle.certificate.specs.declared.conditions.Condition.{Condition}
use Rattle.certificate.specs.declared.conditions.Condition.TheVariants.{Inside, Same}
use Rattle.certificate.specs.declared.runs.Run.{Run}
use Rattle.certificate.proofs.Maximal.{run_within}

module _ (a b : Source) (la : Lawful a) (lb : Lawful b) where
  -- the faults of a condition are what a layer holds
  inside_holds : holds (without a b) ≡ fault Inside a b
  inside_holds = fun_ext (layer_holds (λ p q. p) (λ p q. p) (λ p q. p && not q) refl false a b)

  same_holds : holds (one_of a b) ≡ fault Same a b
  same_holds = fun_ext (layer_holds (λ p q. p || q) (λ p q. p || q) exclusive refl false a b)

  -- so a run of them ends within the capacity that the two share
  pub fault_within : (c : Condition) (p : ℕ) (r : Run) → First (fault c a b) p r → r.to ≤ capacity (shared a.conf b.conf)
  fault_within Inside p r h = run_within (without a b) (without_lawful a b la lb) p r (rw inside_holds h)
  fault_within Same p r h = run_within (one_of a b) (one_of_lawful a b la lb) p r (rw same_holds h)
