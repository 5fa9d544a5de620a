use Rattle.std.proofs.Common.{ℕ, ◌/◌, ◌%◌, ◌^◌, eqb, get_or, sym, ap, ◌∙◌, arith, rules}
use lib.Bits.{and_mask}
use Rattle.std.proofs.lemmas.Bool.{le-ltb}
use Rattle.bit_block.specs.Raised.{raised}
use Rattle.bit_block.proofs.Masks.{raised-past}
use Rattle.bit_block.proofs.mask.Mask.get_bit.Goals as goal

pub returns-then-t-lt256 : goal.returns-then-t-lt256
unfolding raised
returns-then-t-lt256 c = ap (λ (x : ℕ). eqb x 1) (and_mask (get_or c.args.self.words (c.args.t / 64) 0 / 2 ^ (c.args.t % 64)) 1)

pub returns-else-t-lt256 : goal.returns-else-t-lt256
returns-else-t-lt256 c = le-ltb c.args.t 256 (omega arith) ∙ sym (raised-past c.args.self c.args.t (search rules) (omega arith))
