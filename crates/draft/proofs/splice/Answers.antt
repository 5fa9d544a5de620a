use Rattle.std.proofs.Common.{arith}
use Rattle.draft.proofs.Spans.{joined-bits, cut_bits}
use Rattle.draft.proofs.splice.Goals as goal

pub returns-then-on : goal.returns-then-on
returns-then-on c k h = joined-bits c.args.word c.args.part k c.args.on c.if-on.true

pub returns-else-on : goal.returns-else-on
returns-else-on c k h = cut_bits c.args.word c.args.part k c.args.on (omega arith) h c.if-on.false
