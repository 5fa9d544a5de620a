use Rattle.std.proofs.Common.{arith}
use Rattle.std.proofs.lemmas.Nat.{mul-le}
use Rattle.packing.specs.Meaning.{k1of, k1-whole}
use Rattle.packing.proofs.Numbers.data_start.Goals as goal

pub overflow_add-result : goal.overflow_add-result
overflow_add-result c = omega (arith, c.level1_len-len.ensures, c.start_words_len.ensures, mul-le c.args.self.n (k1of c.args.self) 65536 4 (omega arith) (k1-whole c.args.self).1)
