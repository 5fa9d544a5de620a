use Rattle.std.proofs.Common.{ℕ, ◌-◌, ◌%◌, ap}
use Rattle.serialization.specs.Layout.{padding}
use Rattle.serialization.proofs.layout.padding_for.Goals as goal

pub returns-clause-is : goal.returns-clause-is
unfolding padding
returns-clause-is c = ap (λ (n : ℕ). (n - c.args.at % n) % n) c.mask_size-size.ensures.is
