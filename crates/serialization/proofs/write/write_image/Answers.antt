use Rattle.std.proofs.Common.{ℕ, List, ◌++◌, sym, ap, ◌∙◌, arith, rules}
use Rattle.packing.specs.declared.Numbers.{Numbers}
use Rattle.packing.specs.Wrote.{Wrote}
use Rattle.packing.proofs.Writes.{wrote_as}
use Rattle.serialization.specs.Image.{header, level0_part, level1_part, data_part, image}
use Rattle.serialization.specs.Stored.{stored}
use Rattle.serialization.specs.Writing.{length_of, image_of}
use Rattle.serialization.proofs.Imaging.{length-header}
use Rattle.serialization.proofs.Puts.{puts_then}
use Rattle.serialization.proofs.write.write_image.Goals as goal

pub put_level0-requires-clause-place : goal.put_level0-requires-clause-place
put_level0-requires-clause-place c = omega (arith, c.put_header.ensures.wrote.to, length-header (stored c.args.numbers.now c.args.words.now))

pub returns-clause-wrote : goal.returns-clause-wrote
unfolding image
returns-clause-wrote c =
    let m : Numbers = c.args.numbers.now in
    let ws : List ℕ = c.args.words.now in
    let e = c.in_ok-set.ensures.parts in
    let p = puts_then (puts_then (puts_then c.put_header.ensures c.put_level0.ensures.puts) c.put_level1.ensures.puts) c.put_blocks.ensures.puts in
    let w : Wrote c.args.buffer.now c.put_blocks.new.self.buffer.now 0 (image_of m ws) (length_of m) =
    wrote_as p.wrote (λ i. header (stored m ws) ++ level0_part m.config (stored m ws) ++ level1_part (e.0 i).config (stored (e.0 i) (e.1 i)) ++ data_part (e.0 i).config (stored (e.0 i) (e.1 i))) (c.put_blocks.ensures.end ∙ ap length_of e.0) in
    let l = sym p.lender in
    search rules
