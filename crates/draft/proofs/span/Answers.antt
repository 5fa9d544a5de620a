use Rattle.std.proofs.Common.{ℕ, ◌*◌, ltb, ap, ◌∙◌, arith}
use Rattle.draft.proofs.Spans.{span_bits}
use Rattle.draft.proofs.span.Goals as goal

pub returns : goal.returns
returns c k h =
    span_bits c.low_bits-high.result c.low_bits-low.result (c.args.w * 64) k c.args.from c.args.to (omega arith) h
    (c.low_bits-high.ensures k h ∙ ap (λ (x : ℕ). ltb k x) c.saturating_sub-2.ensures)
    (c.low_bits-low.ensures k h ∙ ap (λ (x : ℕ). ltb k x) c.saturating_sub.ensures)
