use Rattle.std.proofs.Common.{◌≡◌, Bool, true, false, ◌&&◌, ◌||◌, eqb, ltb, length, sym, refl, ap, ◌∙◌, arith, rules}
use Rattle.std.proofs.lemmas.Bool.{lt-ltb, le-ltb}
use Rattle.bit_block.specs.Raised.{raised}
use Rattle.bit_block.proofs.Words.{raised-one}
use Rattle.bit_block.proofs.mask.Mask.set_bit.Goals as goal

inside : (p q r : Bool) → q ≡ true → (p || r) ≡ ((p && q) || r)
inside true q r e = ap (λ (b : Bool). b || r) (sym e)
inside false q r e = refl

outside : (p q r : Bool) → q ≡ false → r ≡ ((p && q) || r)
outside true q r e = ap (λ (b : Bool). b || r) (sym e)
outside false q r e = refl

pub returns-then-t-ge256 : goal.returns-then-t-ge256
returns-then-t-ge256 c u = outside (eqb u c.args.t) (ltb c.args.t 256) (raised c.args.self u) (le-ltb c.args.t 256 (omega arith))

pub returns : goal.returns
unfolding raised
returns c u =
    let l : length c.args.self.words ≡ 4 = search rules in
    raised-one c.args.self.words c.args.t u (omega (arith, l))
    ∙ inside (eqb u c.args.t) (ltb c.args.t 256) _ (lt-ltb c.args.t 256 (omega arith))
