use Rattle.std.proofs.Common.{◌/◌, sym, ap, ◌∙◌}
use Rattle.bit_block.specs.declared.config.Width.{Width}
use Rattle.bit_block.specs.Widths.{bits}
use Rattle.packing.specs.Meaning.{bit_from}
use Rattle.bit_block.proofs.Words.{bits1, bits2, bits4}
use Rattle.immutable_bitset.proofs.lookup.Filled.read_mask.Goals as goal

pub returns-in-W64 : goal.returns-in-W64
returns-in-W64 c t =
    bits1 c.args.self.now.words.now c.args.at t ∙ ap (λ (w : Width). bit_from c.args.self.now.words.now c.args.at (bits w / 64) t) (sym c.in-W64.is)

pub returns-in-W128 : goal.returns-in-W128
returns-in-W128 c t =
    bits2 c.args.self.now.words.now c.args.at t ∙ ap (λ (w : Width). bit_from c.args.self.now.words.now c.args.at (bits w / 64) t) (sym c.in-W128.is)

pub returns-in-W256 : goal.returns-in-W256
returns-in-W256 c t =
    bits4 c.args.self.now.words.now c.args.at t ∙ ap (λ (w : Width). bit_from c.args.self.now.words.now c.args.at (bits w / 64) t) (sym c.in-W256.is)
