use Rattle.std.proofs.Common.{arith}
use Rattle.std.proofs.lemmas.Nat.{mul-le}
use Rattle.packing.specs.Meaning.{k1-whole}
use Rattle.packing.proofs.Numbers.level1_len.Goals as goal

pub overflow_mul-result : goal.overflow_mul-result
overflow_mul-result c = omega (arith, mul-le c.args.self.n c.level1_words.result 65536 4 (omega arith) (omega (arith, c.level1_words.ensures, (k1-whole c.args.self).1)))
