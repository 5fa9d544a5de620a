use Rattle.std.proofs.Common.{ℕ, ◌/◌, ap}
use Rattle.packing.specs.Meaning.{kdof}
use Rattle.packing.proofs.Numbers.data_words.Goals as goal

pub returns : goal.returns
unfolding kdof
returns c = ap (λ (x : ℕ). x / 64) c.bits.ensures
