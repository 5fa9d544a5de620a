use Rattle.std.proofs.Common.{arith}
use Rattle.packing.specs.Packed.{four}
use Rattle.immutable_bitset.proofs.fill.start_word.Goals as goal

pub returns-clause-word : goal.returns-clause-word
unfolding four
returns-clause-word c =
    omega (arith, c.pack_starts.ensures, c.next_start-a.ensures.start, c.next_start-b.ensures.start, c.next_start-c.ensures.start, c.next_start-d.ensures.start)
