use Rattle.std.proofs.Common.{ℕ, ◌+◌, ◌-◌, List, length, sym, refl, subst}
use borrow.Rule.Slice.PartMut.{put_mid}
use Rattle.packing.specs.Wrote.{Wrote}
use Rattle.serialization.proofs.Puts.{wrote_mid}
use Rattle.serialization.proofs.write.Cursor.put_bytes.Goals as goal

pub returns : goal.returns
returns c =
    let a : ℕ = c.args.self.now.at in
    let xs : List ℕ = c.args.self.now.buffer.now in
    let ys : List ℕ = c.args.bytes.now in
    record {
      lender = refl;
      wrote = subst (λ (zs : List ℕ). Wrote xs (put_mid a (a + length ys - a) xs zs) a ys (a + length ys)) (sym c.copy_from_slice.ensures.after) (wrote_mid a xs ys c.requires);
    }
