use Rattle.commands.proofs.Commands.{IfErr-all, no_read}
use Rattle.commands.proofs.command.parse_read.Goals as goal

pub returns-in_err-config-clause-err : goal.returns-in_err-config-clause-err
returns-in_err-config-clause-err c = IfErr-all _ c.from_residual-in_err-config.result (no_read c.args.name c.args.config c.args.path c.in_err-config.ensures)
