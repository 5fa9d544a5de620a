use Rattle.ops.proofs.Held.{applied_holds}
use Rattle.ops.proofs.Apply.new.Goals as goal

pub returns-clause-held : goal.returns-clause-held
returns-clause-held g c =
    let op = g.Op.BitSetOp in
    applied_holds op.hierarchy_bit op.data_bit op.TRUSTED_HIERARCHY g.Op.BitSetOp.laws.bits_raises (g.A.LevelMasks.means c.args.a) (g.B.LevelMasks.means c.args.b)
