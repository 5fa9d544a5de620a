use Rattle.std.proofs.Common.{◌≡◌, ℕ, ◌+◌, ◌<◌, get_or}
use Rattle.vetting.specs.Levels.{words_in}
use Rattle.vetting.proofs.rules.raises.Given as goal

-- the words before the place that was reached are 0
abbrev pub invariant-loop-q : goal.invariant-loop-q
invariant-loop-q g l = (t : ℕ) → t < l.q → get_or (words_in l.level (g.P.Parts.parts l.parts)) (l.first + t) 0 ≡ 0
