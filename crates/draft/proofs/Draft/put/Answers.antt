use Rattle.std.proofs.Common.{ℕ, List, length, ◌∙◌, ap₂, arith}
use Rattle.bit_block.specs.declared.config.Config.{Config}
use Rattle.bit_block.specs.Widths.{capacity}
use Rattle.draft.specs.Drafts.{fitting}
use Rattle.bitset_interface.proofs.Caps.{capacity_most}
use Rattle.draft.proofs.Marked.{room}
use Rattle.draft.proofs.Draft.put.Goals as goal

pub write_span-requires : goal.write_span-requires
write_span-requires c =
    let f = c.args.self.now.config in
    let n = length c.args.self.now.words.now in
    let e = c.capacity_of-end.ensures ∙ ap₂ (λ (g : Config) (xs : List ℕ). capacity (fitting g (length xs))) c.view.ensures.config c.view.ensures.words in
    record {
      within = omega (arith, e, room f n, c.if-to-end.false);
      small = omega (arith, e, capacity_most (fitting f n), c.if-to-end.false);
      order = c.if-from-to.false;
    }
