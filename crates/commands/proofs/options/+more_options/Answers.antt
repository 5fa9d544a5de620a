use Rattle.std.proofs.Common.{arith}
use Rattle.commands.proofs.Keys.{no_first}
use Rattle.commands.proofs.options.+more_options.Goals as goal

pub returns-in_err-with-in-len1-up : goal.returns-in_err-with-in-len1-up
returns-in_err-with-in-len1-up t c = no_first c.args.options _ c.args.words.now c.from_residual.result _ c.from_residual.ensures.0 (omega arith) c.in_err-with-in-len1-up.ensures
