use Rattle.std.proofs.Common.{◌≡◌, ℕ, ◌*◌, ap, ◌∙◌, arith, rules}
use Rattle.bit_block.specs.Raised.{raised}
use Rattle.bit_block.specs.Ranges.{count}
use Rattle.bit_block.proofs.Counting.{count_same}
use Rattle.packing.specs.Fills.{k1, kd}
use Rattle.packing.specs.Meaning.{k1-whole, kd-whole}
use Rattle.packing.specs.Packed.{held, full, row_count, block_count, quarter}
use Rattle.packing.proofs.Filling.{level1_of, after_one, one_few, after_two, filled}
use Rattle.packing.proofs.Numbering.{k1_of, kd_of}
use Rattle.immutable_bitset.proofs.fill.put_all.Goals as goal

pub put_masks-len-requires-clause-small : goal.put_masks-len-requires-clause-small
put_masks-len-requires-clause-small g c = omega (arith, c.level1_words.ensures, (k1-whole c.args.numbers).1)

pub put_masks-len-requires-clause-fits : goal.put_masks-len-requires-clause-fits
put_masks-len-requires-clause-fits g c =
    let s = g.S.LevelMasks.means c.args.s.now in
    let rows : count (raised c.args.found.now.level0) 256 ≡ row_count (held s) = count_same _ (full (held s)) 256 (λ i _. c.requires.measured.top i) in
    omega (arith, c.requires.fits, ap (λ (x : ℕ). x * c.level1_words.result) rows, ap (λ (x : ℕ). row_count (held s) * x) (c.level1_words.ensures ∙ k1_of s c.args.numbers c.requires.numbers))

pub put_starts-at-requires-clause-few : goal.put_starts-at-requires-clause-few
put_starts-at-requires-clause-few g c =
    let s = g.S.LevelMasks.means c.args.s.now in
    let one = level1_of s c.level1_words.result _ c.requires.measured.top (c.put_masks-len.ensures (held s) (λ i m l _ p t. let r = c.requires.measured.row i m l t in search rules)) in
    one_few s c.level1_words.result 0 one (omega (arith, c.level1_words.ensures, (k1-whole c.args.numbers).1))

pub put_starts-at-requires-clause-fits : goal.put_starts-at-requires-clause-fits
put_starts-at-requires-clause-fits g c =
    let s = g.S.LevelMasks.means c.args.s.now in
    let one = level1_of s c.level1_words.result _ c.requires.measured.top (c.put_masks-len.ensures (held s) (λ i m l _ p t. let r = c.requires.measured.row i m l t in search rules)) in
    let e : c.put_masks-len.result ≡ row_count (held s) * k1 s = after_one s c.level1_words.result 0 one ∙ ap (λ (x : ℕ). row_count (held s) * x) (c.level1_words.ensures ∙ k1_of s c.args.numbers c.requires.numbers) in
    omega (arith, e, ap quarter e, c.requires.fits, one.long)

pub put_data-requires-clause-small : goal.put_data-requires-clause-small
put_data-requires-clause-small g c = omega (arith, c.data_words.ensures, (kd-whole c.args.numbers).1)

pub put_data-requires-clause-fits : goal.put_data-requires-clause-fits
put_data-requires-clause-fits g c =
    let s = g.S.LevelMasks.means c.args.s.now in
    let one = level1_of s c.level1_words.result _ c.requires.measured.top (c.put_masks-len.ensures (held s) (λ i m l _ p t. let r = c.requires.measured.row i m l t in search rules)) in
    let e : row_count (held s) * c.level1_words.result ≡ row_count (held s) * k1 s = ap (λ (x : ℕ). row_count (held s) * x) (c.level1_words.ensures ∙ k1_of s c.args.numbers c.requires.numbers) in
    let blocks : c.args.found.now.d * c.data_words.result ≡ block_count (held s) * kd s =
    ap (λ (x : ℕ). x * c.data_words.result) c.requires.measured.blocks_are ∙ ap (λ (x : ℕ). block_count (held s) * x) (c.data_words.ensures ∙ kd_of s c.args.numbers c.requires.numbers) in
    omega (arith, after_two s c.level1_words.result 0 one c.put_starts-at.ensures, e, ap quarter e, blocks, c.requires.fits, one.long, c.put_starts-at.ensures.long)

pub returns : goal.returns
returns g c =
    let s = g.S.LevelMasks.means c.args.s.now in
    let one = level1_of s c.level1_words.result _ c.requires.measured.top (c.put_masks-len.ensures (held s) (λ i m l _ p t. let r = c.requires.measured.row i m l t in search rules)) in
    filled s c.level1_words.result c.data_words.result one c.put_starts-at.ensures c.put_data.ensures
    (c.level1_words.ensures ∙ k1_of s c.args.numbers c.requires.numbers) (c.data_words.ensures ∙ kd_of s c.args.numbers c.requires.numbers)
