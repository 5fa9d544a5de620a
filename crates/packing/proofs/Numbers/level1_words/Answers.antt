use Rattle.std.proofs.Common.{ℕ, ◌/◌, ap}
use Rattle.packing.specs.Meaning.{k1of}
use Rattle.packing.proofs.Numbers.level1_words.Goals as goal

pub returns : goal.returns
unfolding k1of
returns c = ap (λ (x : ℕ). x / 64) c.bits.ensures
