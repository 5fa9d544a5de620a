use Rattle.draft.proofs.Spans.{Reached}
use Rattle.draft.proofs.write_span.Given as goal

abbrev pub invariant-loop-q : goal.invariant-loop-q
invariant-loop-q l = Reached l.on l.from l.to l.first l.q l.initial.word-items l.word-items
