-- A run from the least held position to the least position after it that is not held.
use Rattle.std.proofs.Common.{◌≡◌, ℕ, ◌-◌, ◌<◌, ◌≤◌, Bool, true, false, not, ◌&&◌, ltb, Some, None, Option, MatchOption, ap, ◌∙◌, ⊎_elim, arith}
use Rattle.std.proofs.lemmas.Bool.{cases_eq}
use Rattle.std.proofs.lemmas.Bool.Decides.{nat_tests}
use Rattle.bit_block.specs.Bit.{Least}
use Rattle.bit_block.specs.Widths.{capacity}
use Rattle.bitset_interface.specs.Source.{Source, Lawful, holds}
use Rattle.bitset_interface.proofs.Caps.{bit_holds, held_below}
use Rattle.bitset_interface.proofs.Positions.{spread-holds}
use Rattle.certificate.specs.Complements.{complement}
use Rattle.certificate.specs.Runs.{First}
use Rattle.certificate.specs.declared.runs.Run.{Run}

module _ (s : Source) (law : Lawful s) where
  -- what a complement holds
  pub complement_holds : (t : ℕ) → holds (complement s) t ≡ (ltb t (capacity s.conf) && not (holds s t))
  complement_holds t =
      spread-holds s.conf (λ i j k. not (s.up2 i j k)) t
      ∙ ap (λ (b : Bool). ltb t (capacity s.conf) && not b) (bit_holds s law t)

  -- a position that neither holds lies past the capacity
  held_if : (t : ℕ) → t < capacity s.conf → holds (complement s) t ≡ false → holds s t ≡ true
  held_if t h e = grind (arith, nat_tests, complement_holds t)

  -- nothing is held at the capacity
  pub none_at_end : holds s (capacity s.conf) ≡ false
  none_at_end = grind (arith, nat_tests)

  module _ (p from : ℕ) (least : Least (holds s) p (Some from)) where
    -- the run ends at the next gap, or at the capacity
    pub run_ends : (gap : Option ℕ) (to : ℕ) → Least (holds (complement s)) from gap → MatchOption gap (to ≡ capacity s.conf) (λ g. to ≡ g)
        → First (holds s) p (record { from = from; to = to })
    run_ends None to h e = record {
      above = least.0;
      some = omega (arith, e, held_below s law from least.1);
      before = least.2;
      passes = λ t l u. held_if t (omega arith) (h t l);
      ends = ap (holds s) e ∙ none_at_end;
    }
    run_ends (Some gap) to h e =
        let end : gap < capacity s.conf = grind (arith, nat_tests, complement_holds gap, h.1) in
        let off : holds s to ≡ false = grind (arith, nat_tests, complement_holds gap, h.1, e) in
        record {
          above = least.0;
          some = ⊎_elim (λ same. let on = ap (holds s) same in absurd cc) (λ ne. omega (arith, ne, h.0, e)) (cases_eq from to);
          before = least.2;
          passes = λ t l u. held_if t (omega (arith, e)) (h.2 t l (omega (arith, e)));
          ends = off;
        }

  -- a run ends within the capacity
  pub run_within : (p : ℕ) (r : Run) → First (holds s) p r → r.to ≤ capacity s.conf
  run_within p r h =
      let some = h.some in
      let last = held_below s law (r.to - 1) (h.passes (r.to - 1) (omega arith) (omega arith)) in
      omega arith
