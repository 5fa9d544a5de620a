use Rattle.std.proofs.Common.{◌||◌, refl, rules}
use lib.Bits.{bit_or}
use Rattle.bit_block.proofs.Bits.{bit_of-or}
use Rattle.bit_block.proofs.Masks.{pointwise}
use Rattle.bit_block.proofs.mask.Mask.or.Goals as goal

pub returns : goal.returns
returns c = pointwise bit_or ◌||◌ (λ a b k _ _. bit_of-or a b k) refl c.args.self.words c.args.other.words c.zip.result.words (search rules) (search rules) (search rules) (λ i. search rules) (λ q h. search rules)
