use Rattle.std.proofs.Common.{ℕ, ◌*◌, ◌<◌, length, Some, None, sym, refl, ap, ◌∙◌, arith, rules}
use Rattle.bit_block.specs.Raised.{raised}
use Rattle.bit_block.proofs.Counting.{count_none}
use Rattle.bit_block.proofs.Masks.{raised_below}
use Rattle.packing.proofs.Laying.{least_in, chosen_more, chosen_all, place_more, room_more}
use Rattle.packing.proofs.Ranges.{gather_none}
use Rattle.packing.proofs.Words.{length-words}
use Rattle.packing.proofs.Writes.{wrote_none, wrote_as}
use Rattle.immutable_bitset.proofs.fill.put_masks.Goals as goal

pub loop-i-init : goal.loop-i-init
loop-i-init g c = rw c.into_iter-i-iterator.ensures.into_iter_gives (rw c.ones-i-items.ensures.mask (rw c.ones-i-items.ensures.at record {
  mask = refl;
  near = omega arith;
  place = omega (arith, ap (λ (n : ℕ). n * c.args.k) (count_none (raised c.args.which)));
  wrote = λ bits h. wrote_as (wrote_none c.args.words.now c.args.at (omega (arith, c.requires.fits))) (sym (gather_none _)) refl;
}))

pub mask_of-requires : goal.mask_of-requires
mask_of-requires g c =
    c.requires.callable c.in-Some.i (raised_below c.args.which c.in-Some.i (search rules) (least_in _ c.args.which c.loop-i.i-iterator.at (Some c.in-Some.i) c.loop-i.invariant.mask c.in-Some.ensures.steps.least).1)

pub put_mask-next-requires-clause-fits : goal.put_mask-next-requires-clause-fits
put_mask-next-requires-clause-fits g c =
    let l = least_in _ c.args.which c.loop-i.i-iterator.at (Some c.in-Some.i) c.loop-i.invariant.mask c.in-Some.ensures.steps.least in
    let small : c.in-Some.i < 256 = raised_below c.args.which c.in-Some.i (search rules) l.1 in
    omega (arith, c.loop-i.invariant.place, room_more c.args.k (raised c.args.which) _ c.in-Some.i l c.args.at (length c.args.words.now) c.requires.fits small, c.loop-i.auto.words)

pub loop-i-preserved : goal.loop-i-preserved
loop-i-preserved g c =
    let step = c.in-Some.ensures.steps in
    let l = least_in _ c.args.which c.loop-i.i-iterator.at (Some c.in-Some.i) c.loop-i.invariant.mask step.least in
    let small : c.in-Some.i < 256 = raised_below c.args.which c.in-Some.i (search rules) l.1 in
    record {
      mask = step.mask ∙ c.loop-i.invariant.mask;
      near = rw step.reached (omega arith);
      place = rw step.reached (omega (
        arith,
        c.put_mask-next.ensures.to,
        length-words c.args.k (raised c.mask_of.result),
        place_more c.args.k (raised c.args.which) _ c.in-Some.i l,
        c.loop-i.invariant.place,
      ));
      wrote = λ bits h. rw step.reached (
          chosen_more c.args.k (raised c.args.which) bits _ c.in-Some.i l (raised c.mask_of.result) (h c.in-Some.i c.mask_of.result small l.1 c.mask_of.ensures)
          (c.loop-i.invariant.wrote bits h) c.put_mask-next.ensures);
    }

pub returns : goal.returns
returns g c bits h =
    chosen_all c.args.k (raised c.args.which) bits _ (least_in _ _ c.loop-i.i-iterator.at None c.loop-i.invariant.mask c.in-None.ensures.steps.least)
    c.loop-i.invariant.near (c.loop-i.invariant.wrote bits h)
