use Rattle.stylebook.proofs.Listed.{faults_collected}
use Rattle.stylebook.proofs.answer.faults.Goals as goal

pub returns : goal.returns
returns g c =
    rw (c.faults_of.ensures.condition, c.faults_of.ensures.first, c.faults_of.ensures.second, c.faults_of.ensures.at)
    at (faults_collected (λ s. g.A.LevelMasks.means s.now) (λ s. g.B.LevelMasks.means s.now) c.collect.result c.faults_of.result c.collect.ensures.ran)
