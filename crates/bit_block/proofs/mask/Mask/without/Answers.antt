use Rattle.std.proofs.Common.{◌-◌, ◌^◌, not, ◌&&◌, refl, rules}
use lib.Bits.{bit_and}
use Rattle.bit_block.proofs.Bits.{bit_of-and_not}
use Rattle.bit_block.proofs.Masks.{pointwise}
use Rattle.bit_block.proofs.mask.Mask.without.Goals as goal

pub returns : goal.returns
returns c = pointwise (λ a b. bit_and a (2 ^ 64 - 1 - b)) (λ p q. p && not q) bit_of-and_not refl c.args.self.words c.args.other.words c.zip.result.words (search rules) (search rules) (search rules) (λ i. search rules) (λ q h. search rules)
