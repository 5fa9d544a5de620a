use Rattle.std.proofs.Common.{ℕ, List, Some, Option, ap, ◌∙◌, arith}
use Rattle.bit_block.specs.declared.config.Config.{Config}
use Rattle.draft.specs.Drafts.{marked}
use Rattle.draft.proofs.Blocks.{data_is}
use Rattle.draft.proofs.DraftOverLevelMasks.data_mask.Goals as goal

pub returns-then-j-bits : goal.returns-then-j-bits
returns-then-j-bits g c t =
    let k = c.in-Some.c in
    let l = c.bits-then-j-bits in
    let d = c.bits-then-j-bits-2 in
    c.from_words.ensures t
    ∙ data_is k c.args.i c.args.j l.result d.result l.ensures d.ensures
    c.as_slice.result.now t (omega (arith, c.bits.ensures, c.if-i-bits.true)) (omega (arith, c.bits-then-i-bits.ensures, c.if-j-bits.true))
    ∙ ap (λ (xs : List ℕ). (marked (Some k) xs).up2 c.args.i c.args.j t) c.as_slice.ensures
    ∙ ap (λ (o : Option Config). (marked o (g.W.AsSlice.items c.args.self.now.words)).up2 c.args.i c.args.j t) c.in-Some.ensures
