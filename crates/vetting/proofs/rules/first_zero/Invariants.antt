use Rattle.std.proofs.Common.{◌≡◌, ℕ, ◌<◌, true}
use Rattle.bit_block.specs.Widths.{bits}
use Rattle.vetting.specs.Levels.{words_in}
use Rattle.vetting.specs.Rules.{raises_one}
use Rattle.vetting.proofs.rules.first_zero.Given as goal

-- the masks before the place that was reached raise a bit
abbrev pub invariant-loop-i : goal.invariant-loop-i
invariant-loop-i g l = (t : ℕ) → t < l.i → raises_one (words_in l.level (g.P.Parts.parts l.parts)) (bits l.width) t ≡ true
