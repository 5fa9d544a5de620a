use Rattle.std.proofs.Common.{sym}
use Rattle.immutable_bitset.proofs.Blank.filled.Goals as goal

pub new-requires : goal.new-requires
new-requires c = c.args.self.now.sound c.in_ok-numbers.numbers.now (sym c.in_ok-numbers.ensures.value)
