use Rattle.std.proofs.Common.{◌≡◌, ℕ, ◌<◌, Bool, false, sym, ◌∙◌, arith}
use Rattle.bitset_interface.specs.Source.{Source, Lawful}
use Rattle.packing.specs.Packed.{held}
use Rattle.packing.proofs.Held.{held_under, w1_most}
use Rattle.packing.proofs.Walks.{upto_raised, upto_passed, upto_all, held_some, held_none}
use Rattle.packing.proofs.tested_row.Goals as goal

-- a block under a bit that the mask does not raise holds nothing
under : (s : Source) → Lawful s → (i : ℕ) (f : ℕ → Bool) → ((t : ℕ) → f t ≡ s.up1 i t) → (t : ℕ) → f t ≡ false → held s i t ≡ false
under s law i f is t e = held_under s law i t (sym (is t) ∙ e)

pub loop-j-preserved-then-not-is_zero : goal.loop-j-preserved-then-not-is_zero
loop-j-preserved-then-not-is_zero g c =
    let s = g.S.LevelMasks.means c.args.s.now in
    let law = g.S.LevelMasks.lawful c.args.s.now in
    let step = c.in-Some.ensures.steps in
    let is = c.loop-j.invariant.mask in
    let small : c.in-Some.j < 256 = omega (arith, law.below1 c.args.i c.in-Some.j (sym (is c.in-Some.j) ∙ step.least.1), w1_most s.conf) in
    record {
      mask = rw step.mask is;
      tested = rw step.reached (
          upto_raised _ (held s c.args.i) (under s law c.args.i _ is) _ _ _ _ small step.least
          (held_some s law c.args.i c.in-Some.j _ c.data_mask.ensures (c.is_zero.ensures.some c.if-not-is_zero.true))
          c.loop-j.invariant.tested c.set_bit-row.ensures);
    }

pub loop-j-preserved : goal.loop-j-preserved
loop-j-preserved g c =
    let s = g.S.LevelMasks.means c.args.s.now in
    let law = g.S.LevelMasks.lawful c.args.s.now in
    let step = c.in-Some.ensures.steps in
    let is = c.loop-j.invariant.mask in
    record {
      mask = rw step.mask is;
      tested = rw step.reached (
          upto_passed _ (held s c.args.i) (under s law c.args.i _ is) _ _ _ step.least
          (held_none s c.args.i c.in-Some.j _ c.data_mask.ensures (c.is_zero.ensures.none c.if-not-is_zero.false))
          c.loop-j.invariant.tested);
    }

pub returns : goal.returns
returns g c =
    let s = g.S.LevelMasks.means c.args.s.now in
    upto_all _ (held s c.args.i) (under s (g.S.LevelMasks.lawful c.args.s.now) c.args.i _ c.loop-j.invariant.mask) _ _ c.in-None.ensures.steps.least c.loop-j.invariant.tested
