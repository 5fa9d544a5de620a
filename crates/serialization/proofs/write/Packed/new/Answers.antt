use Rattle.std.proofs.Common.{arith}
use Rattle.packing.specs.Meaning.{k1of, kdof}
use Rattle.serialization.proofs.write.Packed.new.Goals as goal

pub returns-then-words-words_needed-clause-there : goal.returns-then-words-words_needed-clause-there
unfolding k1of kdof
returns-then-words-words_needed-clause-there c = (λ e. cc, λ h. absurd (omega (arith, c.words_needed.ensures)))

pub invariant_of-result : goal.invariant_of-result
unfolding k1of kdof
invariant_of-result c = record { all = omega (arith, c.words_needed.ensures) }
