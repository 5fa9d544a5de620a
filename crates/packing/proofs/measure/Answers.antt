use Rattle.std.proofs.Common.{arith}
use Rattle.bit_block.specs.Raised.{raised}
use Rattle.bit_block.proofs.Counting.{count_le}
use Rattle.packing.specs.Packed.{held, full}
use Rattle.packing.proofs.Measuring.{rowed_none, rowed_more, rowed_all, few, found_small, under}
use Rattle.packing.proofs.Walks.{upto_raised, upto_passed, full_some, full_none}
use Rattle.packing.proofs.measure.Goals as goal

pub loop-i-init : goal.loop-i-init
loop-i-init g c = rw c.into_iter-i-iterator.ensures.into_iter_gives (rw c.ones-i-items.ensures.mask (rw c.ones-i-items.ensures.at record {
  mask = c.level0_mask.ensures;
  found = rowed_none (g.S.LevelMasks.means c.args.s.now) c.zero-level0.result c.zero-rows.result c.zero-level0.ensures c.zero-rows.ensures;
}))

pub overflow_cast-d : goal.overflow_cast-d
overflow_cast-d g c = omega (arith, c.count_ones.ensures, count_le (raised c.row_of-row.result) 256)

pub overflow_add-d : goal.overflow_add-d
overflow_add-d g c =
    omega (
      arith,
      c.count_ones.ensures,
      count_le (raised c.row_of-row.result) 256,
      few (g.S.LevelMasks.means c.args.s.now) (g.S.LevelMasks.lawful c.args.s.now) _ c.loop-i.invariant.mask _ _ _ _ c.loop-i.invariant.found,
    )

pub loop-i-preserved-then-not-is_zero : goal.loop-i-preserved-then-not-is_zero
loop-i-preserved-then-not-is_zero g c =
    let s = g.S.LevelMasks.means c.args.s.now in
    let law = g.S.LevelMasks.lawful c.args.s.now in
    let step = c.in-Some.ensures.steps in
    let is = c.loop-i.invariant.mask in
    let r = c.loop-i.invariant.found in
    record {
      mask = rw step.mask is;
      found = rw step.reached (
          rowed_more s law _ is _ _ _ _ r _ step.least _ c.row_of-row.result c.count_ones.result c.row_of-row.ensures c.count_ones.ensures
          (upto_raised _ (full (held s)) (under s law _ is) _ _ _ _ (found_small s law _ is _ _ _ _ r _ step.least) step.least
          (full_some s law c.in-Some.i _ c.row_of-row.ensures (c.is_zero.ensures.some c.if-not-is_zero.true)) r.top c.set_bit-level0.ensures));
    }

pub loop-i-preserved : goal.loop-i-preserved
loop-i-preserved g c =
    let s = g.S.LevelMasks.means c.args.s.now in
    let law = g.S.LevelMasks.lawful c.args.s.now in
    let step = c.in-Some.ensures.steps in
    let is = c.loop-i.invariant.mask in
    let r = c.loop-i.invariant.found in
    record {
      mask = rw step.mask is;
      found = rw step.reached (
          rowed_more s law _ is _ _ _ _ r _ step.least _ c.row_of-row.result c.count_ones.result c.row_of-row.ensures c.count_ones.ensures
          (upto_passed _ (full (held s)) (under s law _ is) _ _ _ step.least
          (full_none s c.in-Some.i _ c.row_of-row.ensures (c.is_zero.ensures.none c.if-not-is_zero.false)) r.top));
    }

pub overflow_cast-result : goal.overflow_cast-result
overflow_cast-result g c = omega (arith, c.count_ones-2.ensures, count_le (raised c.loop-i.level0) 256)

pub returns : goal.returns
returns g c =
    rowed_all (g.S.LevelMasks.means c.args.s.now) (g.S.LevelMasks.lawful c.args.s.now) _ c.loop-i.invariant.mask _ _ _ _ c.loop-i.invariant.found c.in-None.ensures.steps.least c.count_ones-2.result c.count_ones-2.ensures
