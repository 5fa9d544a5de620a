use Rattle.std.proofs.Common.{refl, rules}
use lib.Bits.{bit_xor}
use Rattle.bit_block.specs.Bit.{exclusive}
use Rattle.bit_block.proofs.Bits.{bit_of-xor}
use Rattle.bit_block.proofs.Masks.{pointwise}
use Rattle.bit_block.proofs.mask.Mask.xor.Goals as goal

pub returns : goal.returns
returns c = pointwise bit_xor exclusive (λ a b k _ _. bit_of-xor a b k) refl c.args.self.words c.args.other.words c.zip.result.words (search rules) (search rules) (search rules) (λ i. search rules) (λ q h. search rules)
