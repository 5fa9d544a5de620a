use Rattle.std.proofs.Common.{rules, ◌+◌, ◌∙◌, ap, arith}
use Rattle.certificate.proofs.Counted.{most, all, long}
use Rattle.certificate.proofs.runs.count_held.Goals as goal

pub sum-requires-clause-fits : goal.sum-requires-clause-fits
sum-requires-clause-fits g c = λ p seen from.
    let m = c.map.ensures.runs p seen from in
    let sum = m.2.4 (λ a n. a + n) long 0 (λ x y f a k. search rules) in
    omega (arith, sum, most (λ s. g.S.LevelMasks.means s.now) (λ s. g.S.LevelMasks.lawful s.now) c.args.s m.0 (ap (λ w. w.source) m.1 ∙ c.runs_of.ensures.source) (ap (λ w. w.at) m.1 ∙ c.runs_of.ensures.at))

pub returns : goal.returns
returns g c =
    let w = c.sum.ensures.runs tt in
    let m = c.map.ensures.runs w.0 w.0.seen w.1 in
    w.3 ∙ m.2.4 (λ a n. a + n) long 0 (λ x y f a k. search rules)
    ∙ all (λ s. g.S.LevelMasks.means s.now) (λ s. g.S.LevelMasks.lawful s.now) c.args.s m.0 (ap (λ w. w.source) m.1 ∙ c.runs_of.ensures.source) (ap (λ w. w.at) m.1 ∙ c.runs_of.ensures.at) (m.2.0 ∙ w.2)
