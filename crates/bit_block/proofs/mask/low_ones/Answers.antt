use Rattle.std.proofs.Common.{ℕ, ◌-◌, sym, ap, ◌∙◌, arith}
use lib.Bits.{bit_and, and_mask}
use lib.Count.{ones, ones-le}
use Rattle.std.proofs.lemmas.Nat.{one_shl}
use Rattle.bit_block.specs.Bit.{bit_of}
use Rattle.bit_block.proofs.Bits.{bit_past}
use Rattle.bit_block.proofs.Counting.{ones_low, ones_count, count_past}
use Rattle.bit_block.proofs.mask.low_ones.Goals as goal

pub overflow_cast-result-else-k-lt64 : goal.overflow_cast-result-else-k-lt64
overflow_cast-result-else-k-lt64 c = omega (arith, ones-le 64 c.args.word (omega arith))

pub returns-then-k-lt64 : goal.returns-then-k-lt64
returns-then-k-lt64 c =
    ap (λ (x : ℕ). ones (bit_and c.args.word (x - 1))) (one_shl c.args.k 64 (omega arith))
    ∙ ap ones (and_mask c.args.word c.args.k)
    ∙ ones_low c.args.word c.args.k

pub returns-else-k-lt64 : goal.returns-else-k-lt64
returns-else-k-lt64 c =
    ones_count 64 c.args.word (omega arith)
    ∙ sym (count_past (bit_of c.args.word) 64 c.args.k (omega arith) (λ t h. bit_past c.args.word 64 t (omega arith) h))
