use Rattle.std.proofs.Common.{ℕ, List, [], ◌∷◌, ◌++◌, replicate, arith}
use Rattle.bit_block.specs.declared.config.Width.{Width}
use Rattle.packing.specs.Gathered.{gather}
use Rattle.packing.specs.Meaning.{k1of}
use Rattle.packing.specs.declared.Numbers.{Numbers}
use Rattle.packing.proofs.Lengths.{length_singles}
use Rattle.reader.specs.LittleEndian.{laid}
use Rattle.reader.proofs.LittleEndians.{length-laid}
use Rattle.serialization.specs.Layout.{size, padding, starts0_end}
use Rattle.serialization.specs.Stored.{field_at}
use Rattle.serialization.proofs.Laying.{padded, masked}
use Rattle.serialization.proofs.Lengths.{masks-words}
use Rattle.serialization.proofs.Puts.{puts_then, puts_as}
use Rattle.serialization.proofs.write.Cursor.put_level1.Goals as goal

pub put_words-requires : goal.put_words-requires
unfolding k1of
put_words-requires c =
    let m : Numbers = c.args.set.now.numbers in
    let w : Width = m.config.level1 in
    omega (arith, c.requires.fits, c.mask_words.ensures.long, c.put_padding.ensures.wrote.long, padded w (starts0_end m.config) c.requires.place c.put_padding.ensures, masks-words w m.n)

pub put_starts-requires-clause-fits : goal.put_starts-requires-clause-fits
unfolding k1of
put_starts-requires-clause-fits c =
    let m : Numbers = c.args.set.now.numbers in
    let w : Width = m.config.level1 in
    omega (
      arith,
      c.requires.fits,
      c.level1_len.ensures,
      c.put_padding.ensures.wrote.long,
      c.put_words.ensures.wrote.long,
      padded w (starts0_end m.config) c.requires.place c.put_padding.ensures,
      masked w m.n _ c.mask_words.ensures.long c.put_words.ensures,
    )

pub returns-clause-puts : goal.returns-clause-puts
returns-clause-puts c =
    let w : Width = c.args.set.now.numbers.config.level1 in
    puts_as (puts_then (puts_then c.put_padding.ensures c.put_words.ensures) c.put_starts.ensures)
    (λ i. replicate (padding (size w) (c.requires.place i)) 0 ++ laid 8 (c.mask_words.ensures.is i) ++ laid 2 (gather (λ q. field_at (c.start_words.ensures i) q ∷ []) (c.level1_len.ensures i)))

pub returns-clause-end : goal.returns-clause-end
unfolding k1of
returns-clause-end c =
    let m : Numbers = c.args.set.now.numbers in
    let w : Width = m.config.level1 in
    let ws : List ℕ = c.start_words.result.now in
    let n : ℕ = c.level1_len.result in
    omega (
      arith,
      c.level1_len.ensures,
      padded w (starts0_end m.config) c.requires.place c.put_padding.ensures,
      masked w m.n _ c.mask_words.ensures.long c.put_words.ensures,
      c.put_starts.ensures.wrote.to,
      length-laid 2 (gather (λ q. field_at ws q ∷ []) n),
      length_singles (field_at ws) n,
    )
