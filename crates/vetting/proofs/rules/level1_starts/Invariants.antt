use Rattle.std.proofs.Common.{◌≡◌, ℕ, ◌<◌, get_or}
use Rattle.packing.specs.Packed.{before}
use Rattle.vetting.proofs.rules.level1_starts.Given as goal

-- the starts before the place that was reached are as defined, and the raised bits of their words are counted
abbrev pub invariant-loop-m : goal.invariant-loop-m
invariant-loop-m g l = record {
  starts : (t : ℕ) → t < l.m → get_or (g.P.Parts.parts l.parts).starts1 t 0 ≡ before (g.P.Parts.parts l.parts).rows t;
  ones : l.ones ≡ before (g.P.Parts.parts l.parts).rows l.m;
}
