use Rattle.std.proofs.Common.{◌≡◌, ℕ, ◌*◌, ◌<◌, Bool, [], length, slice_index_or, Some, None, sym, refl, ap, ◌∙◌, subst, arith, rules}
use mathlib.Core.Path.{fun_ext}
use Rattle.bit_block.specs.Raised.{raised}
use Rattle.bit_block.specs.declared.mask.Mask.{Mask}
use Rattle.bit_block.proofs.Counting.{count_same}
use Rattle.packing.specs.Packed.{held, blocks, chosen}
use Rattle.bit_block.specs.Ranges.{count}
use Rattle.packing.specs.Wrote.{Wrote}
use Rattle.packing.proofs.Laying.{least_in, row_below, data_more, data_room, data_all}
use Rattle.packing.proofs.Ranges.{gather_none}
use Rattle.packing.proofs.Writes.{wrote_none, wrote_as}
use Rattle.immutable_bitset.proofs.fill.put_data.Goals as goal

pub loop-i-init : goal.loop-i-init
loop-i-init g c = rw c.into_iter-i-iterator.ensures.into_iter_gives (rw c.ones-i-items.ensures.mask (rw c.ones-i-items.ensures.at record {
  mask = refl;
  near = omega arith;
  wrote = wrote_as (wrote_none c.args.words.now c.args.at (omega (arith, c.requires.fits))) (sym (gather_none _)) refl;
}))

pub offset_bounds-found-i : goal.offset_bounds-found-i
offset_bounds-found-i g c =
    omega (arith, row_below (g.S.LevelMasks.means c.args.s.now) (g.S.LevelMasks.lawful c.args.s.now) c.args.k _ c.requires.measured.top _ c.in-Some.i (least_in _ c.args.found.now.level0 c.loop-i.i-iterator.at (Some c.in-Some.i) c.loop-i.invariant.mask c.in-Some.ensures.steps.least))

pub bounds-found-i : goal.bounds-found-i
bounds-found-i g c =
    row_below (g.S.LevelMasks.means c.args.s.now) (g.S.LevelMasks.lawful c.args.s.now) c.args.k _ c.requires.measured.top _ c.in-Some.i (least_in _ c.args.found.now.level0 c.loop-i.i-iterator.at (Some c.in-Some.i) c.loop-i.invariant.mask c.in-Some.ensures.steps.least)

pub put_masks-next-requires-clause-fits : goal.put_masks-next-requires-clause-fits
unfolding blocks
put_masks-next-requires-clause-fits g c =
    let s = g.S.LevelMasks.means c.args.s.now in
    let law = g.S.LevelMasks.lawful c.args.s.now in
    let i : ℕ = c.in-Some.i in
    let l = least_in _ c.args.found.now.level0 c.loop-i.i-iterator.at (Some c.in-Some.i) c.loop-i.invariant.mask c.in-Some.ensures.steps.least in
    let small : i < 256 = row_below s law c.args.k _ c.requires.measured.top _ i l in
    let row : Mask = slice_index_or c.args.found.now.rows i (record { words = [] }) in
    let blocks_are : count (raised row) 256 ≡ count (held s i) 256 = count_same (raised row) (held s i) 256 (λ t _. c.requires.measured.row i _ small t) in
    omega (
      arith,
      ap (λ (n : ℕ). n * c.args.k) blocks_are,
      data_room s law c.args.k _ c.requires.measured.top _ i l (length c.args.words.now) c.loop-i.invariant.wrote (omega (arith, c.requires.fits, ap (λ (n : ℕ). n * c.args.k) c.requires.measured.blocks_are)),
      c.loop-i.auto.words,
    )

pub loop-i-preserved : goal.loop-i-preserved
loop-i-preserved g c =
    let s = g.S.LevelMasks.means c.args.s.now in
    let law = g.S.LevelMasks.lawful c.args.s.now in
    let step = c.in-Some.ensures.steps in
    let i : ℕ = c.in-Some.i in
    let l = least_in _ c.args.found.now.level0 c.loop-i.i-iterator.at (Some c.in-Some.i) c.loop-i.invariant.mask step.least in
    let small : i < 256 = row_below s law c.args.k _ c.requires.measured.top _ i l in
    let is : raised (slice_index_or c.args.found.now.rows i (record { words = [] })) ≡ held s i = fun_ext (c.requires.measured.row i _ small) in
    let wrote = c.put_masks-next.ensures (s.up2 i) (λ j m _ _ p t. search rules) in
    record {
      mask = step.mask ∙ c.loop-i.invariant.mask;
      near = rw step.reached (omega arith);
      wrote = rw step.reached (data_more s law c.args.k _ c.requires.measured.top _ i l c.loop-i.invariant.wrote (subst (λ (f : ℕ → Bool). Wrote c.loop-i.words c.put_masks-next.new.words c.loop-i.next (chosen c.args.k f (s.up2 i) 256) c.put_masks-next.result) is wrote));
    }

pub returns : goal.returns
returns g c =
    data_all (g.S.LevelMasks.means c.args.s.now) (g.S.LevelMasks.lawful c.args.s.now) c.args.k (raised c.args.found.now.level0) c.requires.measured.top
    c.loop-i.i-iterator.at (least_in _ _ c.loop-i.i-iterator.at None c.loop-i.invariant.mask c.in-None.ensures.steps.least)
    c.loop-i.invariant.near c.loop-i.invariant.wrote
