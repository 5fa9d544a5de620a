use Rattle.std.proofs.Common.{ℕ, ◌-◌, sym, ap, ◌∙◌, arith}
use Rattle.std.proofs.lemmas.Nat.{one_shl}
use Rattle.std.proofs.lemmas.Bool.{lt-ltb}
use Rattle.bit_block.specs.Bit.{bit_of}
use Rattle.bit_block.proofs.Bits.{bit_ones}
use Rattle.draft.proofs.Spans.{low_ones}
use Rattle.draft.proofs.low_bits.Goals as goal

pub returns-then-n-lt64 : goal.returns-then-n-lt64
returns-then-n-lt64 c k h = ap (λ (x : ℕ). bit_of (x - 1) k) (one_shl c.args.n 64 (omega arith)) ∙ low_ones c.args.n k

pub returns-else-n-lt64 : goal.returns-else-n-lt64
returns-else-n-lt64 c k h = bit_ones k h ∙ sym (lt-ltb k c.args.n (omega arith))
