use Rattle.std.proofs.Common.{sym, ◌∙◌}
use Rattle.packing.proofs.Walks.{trusted_held}
use Rattle.packing.proofs.row_of.Goals as goal

pub returns-then-trusted : goal.returns-then-trusted
returns-then-trusted g c t =
    c.level1_mask.ensures t
    ∙ trusted_held (g.S.LevelMasks.means c.args.s.now) (g.S.LevelMasks.lawful c.args.s.now) (sym c.trusted.ensures ∙ c.if-trusted.true) c.args.i t
