use Rattle.std.proofs.Common.{◌≡◌, ℕ, ◌+◌, ◌-◌, ◌*◌, ◌/◌, ◌<◌, ◌≤◌, List, length, take, drop, sym, ap, ◌∙◌, subst, arith, rules}
use borrow.Rule.Slice.PartMut.{put_mid}
use Rattle.bit_block.specs.declared.config.Width.{Width}
use Rattle.packing.specs.Wrote.{Wrote}
use Rattle.reader.specs.LittleEndian.{numbers}
use Rattle.reader.specs.Streams.{Stream}
use Rattle.reader.proofs.Fieldings.{run_none, run_more, run_stop}
use Rattle.serialization.specs.Bodies.{masks_in}
use Rattle.serialization.specs.Layout.{size, words}
use Rattle.serialization.proofs.Bodies.{masks_none, masks_more, mask_words, behind_masks, mask_fits}
use Rattle.serialization.proofs.body.read_masks.Goals as goal

pub loop-q-init : goal.loop-q-init
loop-q-init g c =
    let s : Stream = g.R.Reader.means c.args.reader.now in
    record { took = run_none (size c.args.width) s; filled = masks_none (words c.args.width) s.front.bytes c.args.out.now }

pub returns-in_err-mask-clause-took : goal.returns-in_err-mask-clause-took
returns-in_err-mask-clause-took g c =
    let w : Width = c.args.width in
    let e : c.bits-k.result / 64 ≡ words w = ap (λ (n : ℕ). n / 64) c.bits-k.ensures in
    let l : c.loop-q.q < masks_in w (length c.args.out.now) = subst (λ (k : ℕ). c.loop-q.q < length c.args.out.now / k) e c.loop-q-test.true in
    let h = run_stop c.loop-q.q (masks_in w (length c.args.out.now)) (size w) c.in_err-mask.field-0.0 (g.R.Reader.means c.args.reader.now) (g.R.Reader.means c.loop-q.reader)
    (g.R.Reader.means c.read_mask.new.reader) c.loop-q.invariant.took c.in_err-mask.ensures.took l in
    search rules

pub loop-q-preserved : goal.loop-q-preserved
loop-q-preserved g c =
    let w : Width = c.args.width in
    let q : ℕ = c.loop-q.q in
    let k : ℕ = c.bits-k.result / 64 in
    let e : k ≡ words w = ap (λ (n : ℕ). n / 64) c.bits-k.ensures in
    let s : Stream = g.R.Reader.means c.args.reader.now in
    let t : Stream = g.R.Reader.means c.loop-q.reader in
    let xs : List ℕ = s.front.bytes in
    let old : List ℕ = c.args.out.now in
    let cur : List ℕ = c.loop-q.out in
    let part : List ℕ = c.copy_from_slice.new.self in
    let p : Wrote old cur 0 (numbers 8 (q * k) xs) (q * k) = subst (λ (n : ℕ). Wrote old cur 0 (numbers 8 (q * n) xs) (q * n)) (sym e) c.loop-q.invariant.filled in
    let is : part ≡ numbers 8 k (drop (q * k * 8) xs) =
    c.copy_from_slice.ensures.after ∙ ap (take k) c.in_ok-mask.ensures.gives ∙ mask_words w k t.front.bytes e ∙ ap (numbers 8 k) (behind_masks w q k s t e c.loop-q.invariant.took) in
    let fits : q * k + k ≤ length cur = omega (arith, mask_fits q k (length old) c.loop-q-test.true, p.long) in
    record {
      took = run_more q (size w) s t (g.R.Reader.means c.read_mask.new.reader) c.loop-q.invariant.took c.in_ok-mask.ensures.took;
      filled = subst (λ (n : ℕ). Wrote old (put_mid (q * k) (q * k + k - q * k) cur part) 0 (numbers 8 ((q + 1) * n) xs) ((q + 1) * n)) e (masks_more q k xs old cur part p is fits);
    }
