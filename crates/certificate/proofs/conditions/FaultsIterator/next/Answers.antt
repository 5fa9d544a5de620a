use Rattle.std.proofs.Common.{arith}
use Rattle.certificate.proofs.Faulted.{fault_within}
use Rattle.certificate.proofs.conditions.FaultsIterator.next.Goals as goal

pub returns-clause-goes : goal.returns-clause-goes
returns-clause-goes g c =
    let walk = c.args.self.now in
    let h = c.in_ok-run.ensures in
    let w = fault_within (g.A.LevelMasks.means walk.first) (g.B.LevelMasks.means walk.second) (g.A.LevelMasks.lawful walk.first) (g.B.LevelMasks.lawful walk.second) walk.condition walk.at c.in_ok-run.run' h in
    record { on = λ _. (tt, tt, omega (arith, h.above, h.some, w)); keeps = tt; rests = λ _. tt }
