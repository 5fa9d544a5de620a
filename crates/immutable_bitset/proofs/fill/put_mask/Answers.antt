use Rattle.std.proofs.Common.{◌≡◌, ℕ, ◌+◌, ◌-◌, ◌^◌, ◌<◌, List, length, get_or, take, refl, arith, rules}
use Rattle.std.proofs.lemmas.List.{length-take-le}
use borrow.Rule.Slice.PartMut.{put_mid}
use Rattle.packing.proofs.Words.{words_of_mask}
use Rattle.packing.proofs.Writes.{wrote_over, wrote_as}
use Rattle.packing.specs.Wrote.{Wrote}
use Rattle.immutable_bitset.proofs.fill.put_mask.Goals as goal

pub returns : goal.returns
returns c =
    let xs : List ℕ = take c.args.k c.args.mask.words in
    let four : length c.args.mask.words ≡ 4 = search rules in
    let fits : (t : ℕ) → get_or c.args.mask.words t 0 < 2 ^ 64 = λ t. search rules in
    let n : c.args.k ≡ c.args.at + c.args.k - c.args.at = omega arith in
    let long : length xs ≡ c.args.k = length-take-le c.args.k c.args.mask.words (omega (arith, four, c.requires.small)) in
    let w : Wrote c.args.words.now (put_mid c.args.at c.args.k c.args.words.now xs) c.args.at xs (c.args.at + c.args.k) = wrote_over c.args.words.now xs c.args.at c.args.k long c.requires.fits in
    rw (c.copy_from_slice.ensures.after, ← n) (wrote_as w (words_of_mask c.args.mask fits c.args.k (omega (arith, four, c.requires.small))) refl)
