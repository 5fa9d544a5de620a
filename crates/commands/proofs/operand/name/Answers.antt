use Rattle.commands.proofs.Spelled.{name_utf8, IsOk-text}
use Rattle.commands.proofs.operand.name.Goals as goal

pub unwrap-requires : goal.unwrap-requires
unwrap-requires c = IsOk-text _ _ c.args.word.now c.from_utf8.result (name_utf8 c.args.word.now c.if-not-is_name.ensures) c.from_utf8.ensures.cases
