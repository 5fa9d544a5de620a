use Rattle.std.proofs.Common.{◌<◌, rules}
use Rattle.bit_block.proofs.Masks.{raised_below}
use Rattle.bit_block.proofs.ones.OnesIterator.next.Goals as goal

pub overflow_add-self : goal.overflow_add-self
overflow_add-self c = let below : c.in_ok-found.found < 256 = raised_below c.args.self.now.mask c.in_ok-found.found (search rules) c.in_ok-found.ensures.1 in search rules

pub returns-clause-goes : goal.returns-clause-goes
returns-clause-goes c = let below : c.in_ok-found.found < 256 = raised_below c.args.self.now.mask c.in_ok-found.found (search rules) c.in_ok-found.ensures.1 in search rules
