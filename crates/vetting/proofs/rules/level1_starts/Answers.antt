use Rattle.std.proofs.Common.{◌≡◌, ◌*◌, ◌/◌, sym, ap, ◌∙◌, arith, rules}
use Rattle.std.proofs.lemmas.Bool.{eq-eqb, ne_eqb}
use Rattle.packing.proofs.Starts.{before-none}
use Rattle.serialization.specs.Layout.{words}
use Rattle.vetting.specs.Rules.{broken_at}
use Rattle.vetting.proofs.Broken.{all_pass}
use Rattle.vetting.proofs.Tested.{first_at, before_next}
use Rattle.vetting.proofs.rules.level1_starts.Goals as goal

pub loop-m-init : goal.loop-m-init
loop-m-init g c = record { starts = λ t l. absurd (omega (arith, l)); ones = sym (before-none _) }

pub returns-then-level1_start-ones-clause-rule : goal.returns-then-level1_start-ones-clause-rule
returns-then-level1_start-ones-clause-rule g c =
    ap (broken_at 4) (sym (first_at _ c.loop-m.m _ (λ t l. eq-eqb _ _ (c.loop-m.invariant.starts t l)) (ne_eqb _ _ (search rules)) (search rules)))

pub loop-m-preserved : goal.loop-m-preserved
loop-m-preserved g c = record {
  starts = search rules;
  ones = sym (before_next _ c.loop-m.m ∙ search rules);
}

pub returns-clause-rule : goal.returns-clause-rule
returns-clause-rule g c =
    let len : c.n.result * (c.bits.result / 64) ≡ (g.P.Parts.parts c.args.parts.now).n * words (g.P.Parts.conf c.args.parts.now).level1 = search rules in
    ap (broken_at 4) (sym (all_pass _ _ (λ t l. eq-eqb _ _ (c.loop-m.invariant.starts t (omega (arith, l, c.loop-m-test.false, len))))))
