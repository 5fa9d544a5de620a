use Rattle.std.proofs.Common.{◌≡◌, ℕ, ◌+◌, ◌*◌, ◌/◌, ◌%◌, ◌&&◌, ltb, get_or, ap, ◌∙◌, arith, rules}
use Rattle.bit_block.specs.Bit.{bit_of}
use Rattle.bit_block.specs.Widths.{bits}
use Rattle.bit_block.proofs.Words.{bits_from, whole}
use Rattle.bit_block.proofs.mask.Mask.of_first.Goals as goal

pub returns : goal.returns
returns c t =
    let xs = c.args.there.now in
    let k = bits c.args.width / 64 in
    let w = whole c.args.width in
    let zero-first : 0 + t / 64 ≡ t / 64 = omega arith in
    rw w.0 (bits_from xs 0 k c.from_fn.result (search rules) w.1 (λ q h. search rules) t ∙ ap (λ (q : ℕ). ltb t (k * 64) && bit_of (get_or xs q 0) (t % 64)) zero-first)
