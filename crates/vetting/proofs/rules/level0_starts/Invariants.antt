use Rattle.std.proofs.Common.{◌≡◌, ℕ, ◌<◌, get_or}
use Rattle.vetting.proofs.rules.level0_starts.Given as goal

-- the starts before the place that was reached are as they should be
abbrev pub invariant-loop-q : goal.invariant-loop-q
invariant-loop-q g l = (t : ℕ) → t < l.q → get_or (g.P.Parts.parts l.parts).starts0 t 0 ≡ get_or l.starts t 0
