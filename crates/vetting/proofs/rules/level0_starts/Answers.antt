use Rattle.std.proofs.Common.{◌≡◌, ℕ, get_or, sym, ap, ◌∙◌, arith}
use Rattle.std.proofs.lemmas.Bool.{eq-eqb, ne_eqb}
use Rattle.bit_block.specs.Widths.{bits}
use Rattle.packing.specs.Starts0.{start0}
use Rattle.vetting.specs.Rules.{bit_in, broken_at}
use Rattle.vetting.proofs.Broken.{all_pass}
use Rattle.vetting.proofs.Tested.{first_at}
use Rattle.vetting.proofs.Level0.{same_starts}
use Rattle.vetting.proofs.rules.level0_starts.Goals as goal

pub returns-then-level0_start-starts : goal.returns-then-level0_start-starts
returns-then-level0_start-starts g c =
    let r = g.P.Parts.parts c.args.parts.now in
    let is : (q : ℕ) → get_or c.level0_starts-starts.result q 0 ≡ start0 (bit_in r.top) (bits (g.P.Parts.conf c.args.parts.now).level0) q =
    λ q. c.level0_starts-starts.ensures q ∙ same_starts c.level0.result r.top c.config.result _ c.level0.ensures c.config.ensures q in
    ap (broken_at 2) (sym (first_at _ c.loop-q.q 8 (λ t l. eq-eqb _ _ (c.loop-q.invariant t l ∙ is t)) (ne_eqb _ _ (λ e. c.if-level0_start-starts.true (c.level0_start.ensures ∙ e ∙ sym (is c.loop-q.q)))) c.loop-q-test.true))

pub returns : goal.returns
returns g c =
    let r = g.P.Parts.parts c.args.parts.now in
    let is : (q : ℕ) → get_or c.level0_starts-starts.result q 0 ≡ start0 (bit_in r.top) (bits (g.P.Parts.conf c.args.parts.now).level0) q =
    λ q. c.level0_starts-starts.ensures q ∙ same_starts c.level0.result r.top c.config.result _ c.level0.ensures c.config.ensures q in
    ap (broken_at 2) (sym (all_pass _ 8 (λ t l. eq-eqb _ _ (c.loop-q.invariant t (omega (arith, l, c.loop-q-test.false)) ∙ is t))))
