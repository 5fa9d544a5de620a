use Rattle.commands.proofs.Keys.{behind_key}
use Rattle.commands.proofs.options.behind.Goals as goal

pub returns : goal.returns
returns c = behind_key c.args.key.now c.args.word.now _ c.strip_prefix.result c.strip_prefix.ensures.cases
