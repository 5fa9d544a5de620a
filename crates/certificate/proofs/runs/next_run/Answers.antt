use Rattle.std.proofs.Common.{rules}
use Rattle.certificate.proofs.Maximal.{run_ends}
use Rattle.certificate.proofs.runs.next_run.Goals as goal

pub returns : goal.returns
returns g c =
    run_ends (g.S.LevelMasks.means c.args.s.now) (g.S.LevelMasks.lawful c.args.s.now) c.args.p c.in_ok-from.from c.in_ok-from.ensures
    c.next_from-2.result c.unwrap_or_else-to.result c.next_from-2.ensures (search rules)
