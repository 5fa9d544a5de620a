use Rattle.std.proofs.Common.{◌∙◌}
use Rattle.bitset_interface.proofs.Caps.{bit_looked_up}
use Rattle.bitset_interface.proofs.walk.contains.Goals as goal

pub returns : goal.returns
returns g c =
    c.get_bit.ensures
    ∙ c.data_mask.ensures c.level_indices-i.result.2
    ∙ bit_looked_up (g.S.LevelMasks.means c.args.s.now) (g.S.LevelMasks.lawful c.args.s.now) c.args.p c.in-Some.config c.in-Some.ensures
    c.level_indices-i.result.0 c.level_indices-i.result.1 c.level_indices-i.result.2
    c.level_indices-i.ensures.level0 c.level_indices-i.ensures.level1 c.level_indices-i.ensures.bit
