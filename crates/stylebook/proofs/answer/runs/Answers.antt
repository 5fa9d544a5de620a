use Rattle.stylebook.proofs.Listed.{runs_collected}
use Rattle.stylebook.proofs.answer.runs.Goals as goal

pub returns : goal.returns
returns g c =
    rw (c.runs_of.ensures.source, c.runs_of.ensures.at)
    at (runs_collected (λ s. g.S.LevelMasks.means s.now) c.collect.result c.runs_of.result c.collect.ensures.ran)
