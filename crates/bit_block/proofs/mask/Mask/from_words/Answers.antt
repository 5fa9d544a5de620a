use Rattle.std.proofs.Common.{◌∙◌}
use Rattle.bit_block.proofs.Words.{bits1, bits2, bits4, dropped}
use Rattle.bit_block.proofs.mask.Mask.from_words.Goals as goal

pub returns-in-W64-len1-up : goal.returns-in-W64-len1-up
returns-in-W64-len1-up c t = rw c.in-W64-len1-up.is-0 (rw c.onward.ensures (bits1 _ 0 t ∙ dropped c.args.words.now c.args.at 64 t))

pub returns-in-W128-len2-up : goal.returns-in-W128-len2-up
returns-in-W128-len2-up c t = rw c.in-W128-len2-up.is-0 (rw c.onward.ensures (bits2 _ 0 t ∙ dropped c.args.words.now c.args.at 128 t))

pub returns-in-W256-len4-up : goal.returns-in-W256-len4-up
returns-in-W256-len4-up c t = rw c.in-W256-len4-up.is-0 (rw c.onward.ensures (bits4 _ 0 t ∙ dropped c.args.words.now c.args.at 256 t))
