use Rattle.std.proofs.Common.{arith}
use Rattle.commands.specs.declared.verb.Layer.TheVariants.{Both}
use Rattle.commands.specs.declared.verb.Rule.TheVariants.{Emphasis}
use Rattle.commands.specs.declared.verb.Verb.TheVariants as verb
use Rattle.commands.proofs.verb.VerbTryFromRefSliceU8.try_from.Goals as goal

-- a word that is no arm's is no verb's; the last line stands for each other verb
pub returns-in_default : goal.returns-in_default
returns-in_default c (verb.Layer Both) is = grind arith
returns-in_default c (verb.Check Emphasis) is = grind arith
returns-in_default c v is = grind arith
