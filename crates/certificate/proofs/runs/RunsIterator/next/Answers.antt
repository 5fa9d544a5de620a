use Rattle.std.proofs.Common.{arith}
use Rattle.certificate.proofs.Maximal.{run_within}
use Rattle.certificate.proofs.runs.RunsIterator.next.Goals as goal

pub returns-clause-goes : goal.returns-clause-goes
returns-clause-goes g c =
    let walk = c.args.self.now in
    let h = c.in_ok-run.ensures in
    let w = run_within (g.S.LevelMasks.means walk.source) (g.S.LevelMasks.lawful walk.source) walk.at c.in_ok-run.run' h in
    record { on = λ _. (tt, tt, omega (arith, h.above, h.some, w)); keeps = tt; rests = λ _. tt }
