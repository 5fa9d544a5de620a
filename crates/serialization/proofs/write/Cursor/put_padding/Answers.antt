use Rattle.std.proofs.Common.{ℕ, replicate, ap, ◌∙◌, arith}
use Rattle.std.proofs.lemmas.List.{take-replicate}
use Rattle.serialization.proofs.Puts.{puts_as}
use Rattle.serialization.proofs.write.Cursor.put_padding.Goals as goal

pub returns : goal.returns
returns c = puts_as c.put_bytes.ensures (take-replicate c.padding_for.result 32 0 (omega (arith, c.padding_for.ensures.small)) ∙ ap (λ (n : ℕ). replicate n 0) c.padding_for.ensures.is)
