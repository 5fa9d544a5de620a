use Rattle.commands.proofs.Commands.{IfErr-all, no_load, no_bytes, no_option}
use Rattle.commands.proofs.command.parse_load.Goals as goal

pub returns-in_err-config-clause-err : goal.returns-in_err-config-clause-err
returns-in_err-config-clause-err c = IfErr-all _ c.from_residual-in_err-config.result (no_load c.args.name c.args.config c.args.bytes c.args.options.now c.in_err-config.ensures)

pub returns-in_err-hex-clause-err : goal.returns-in_err-hex-clause-err
returns-in_err-hex-clause-err c = IfErr-all _ c.from_residual-in_err-hex.result (no_bytes c.args.name c.args.config c.args.bytes c.args.options.now c.in_err-hex.ensures)

pub returns-in_err-more_options-clause-err : goal.returns-in_err-more_options-clause-err
returns-in_err-more_options-clause-err c = IfErr-all _ c.from_residual-in_err-more_options.result (no_option c.args.name c.args.config c.args.bytes c.args.options.now c.in_err-more_options.ensures)
