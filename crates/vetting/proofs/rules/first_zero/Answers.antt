use Rattle.std.proofs.Common.{sym, arith, rules}
use Rattle.vetting.proofs.Broken.{all_pass}
use Rattle.vetting.proofs.Tested.{first_at}
use Rattle.vetting.proofs.rules.first_zero.Goals as goal

pub returns-then-not-raises : goal.returns-then-not-raises
returns-then-not-raises g c = sym (first_at _ c.loop-i.i _ c.loop-i.invariant (search rules) c.loop-i-test.true)

pub returns : goal.returns
returns g c = sym (all_pass _ _ (λ t l. c.loop-i.invariant t (omega (arith, l, c.loop-i-test.false))))
