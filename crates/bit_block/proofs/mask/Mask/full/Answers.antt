use Rattle.std.proofs.Common.{◌/◌, rules}
use Rattle.bit_block.specs.Widths.{bits}
use Rattle.bit_block.proofs.Words.{full-bits, whole}
use Rattle.bit_block.proofs.mask.Mask.full.Goals as goal

pub returns : goal.returns
returns c t =
    let w = whole c.args.width in
    rw w.0 (full-bits (bits c.args.width / 64) c.from_fn.result w.1 (search rules) (λ q h. search rules) t)
