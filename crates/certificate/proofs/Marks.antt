-- Marking a source's runs one after another.
use Rattle.std.proofs.Common.{◌≡◌, ℕ, ◌<◌, ◌≤◌, Bool, true, false, cond, ◌&&◌, ◌||◌, ltb, List, length, None, ap, ◌∙◌, ap₂, arith}
use Rattle.std.proofs.lemmas.Bool.Decides.{nat_tests}
use Rattle.bit_block.specs.declared.config.Config.{Config}
use Rattle.bit_block.specs.Widths.{capacity}
use Rattle.bitset_interface.specs.Source.{Source, Lawful, holds}
use Rattle.draft.specs.Drafts.{stored, fitting, within, Spanned, good_range}
use Rattle.certificate.specs.Runs.{First, RunFrom, Adds}
use Rattle.certificate.specs.declared.runs.Run.{Run}
use Rattle.certificate.proofs.Maximal.{run_within}

-- the held positions below `at` are marked
pub record Part (s : Source) (at : ℕ) (old new : List ℕ) : Type 0 where
  pub long : length new ≡ length old
  pub bits : (p : ℕ) → stored new p ≡ ((ltb p at && holds s p) || stored old p)

-- a position's bit after one run more
bit_more : (p at from to : ℕ) (held new mid old : Bool) → (at ≤ p → p < from → held ≡ false) → (from ≤ p → p < to → held ≡ true) → at ≤ from → from < to
    → mid ≡ ((ltb p at && held) || old) → new ≡ cond (within from to p) true mid → new ≡ ((ltb p to && held) || old)
bit_more p at from to held new mid old before passes above some part span = grind (arith, nat_tests)

-- and where no run is left
bit_all : (p at : ℕ) (held old : Bool) → (at ≤ p → held ≡ false) → ((ltb p at && held) || old) ≡ (held || old)
bit_all p at held old none = grind (arith, nat_tests)

module _ (s : Source) (old : List ℕ) where
  -- one run more
  pub part_more : (at : ℕ) (r : Run) (mid new : List ℕ) → First (holds s) at r → Part s at old mid → Spanned true r.from r.to mid new → Part s r.to old new
  part_more at r mid new h part span = record {
    long = span.long ∙ part.long;
    bits = λ p. bit_more p at r.from r.to (holds s p) _ _ _ (h.before p) (h.passes p) h.above h.some (part.bits p) (span.bits p);
  }

  -- no run is left
  pub part_all : (at : ℕ) (new : List ℕ) → RunFrom (holds s) at None → Part s at old new → Adds s old new
  part_all at new none part = record {
    long = part.long;
    bits = λ p. part.bits p ∙ bit_all p at (holds s p) (stored old p) (none p);
  }

-- a source's run is a good range of a draft with as many positions, also after marks
pub run_good : (s : Source) → Lawful s → (at : ℕ) (r : Run) → First (holds s) at r → (c d : Config) (xs ys : List ℕ) → c ≡ d → length xs ≡ length ys
    → capacity s.conf ≤ capacity (fitting d (length ys)) → good_range (fitting c (length xs)) r.from r.to ≡ true
run_good s law at r h c d xs ys e l fits =
    let same : capacity (fitting c (length xs)) ≡ capacity (fitting d (length ys)) = ap capacity (ap₂ fitting e l) in
    grind (arith, nat_tests, h.some, run_within s law at r h)
