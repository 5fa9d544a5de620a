use Rattle.std.proofs.Common.{◌++◌, replicate, arith}
use Rattle.bit_block.specs.declared.config.Width.{Width}
use Rattle.packing.specs.Meaning.{kdof}
use Rattle.packing.specs.declared.Numbers.{Numbers}
use Rattle.reader.specs.LittleEndian.{laid}
use Rattle.serialization.specs.Layout.{size, padding, starts1_end}
use Rattle.serialization.proofs.Laying.{padded, masked}
use Rattle.serialization.proofs.Lengths.{masks-words}
use Rattle.serialization.proofs.Puts.{puts_then, puts_as}
use Rattle.serialization.proofs.write.Cursor.put_blocks.Goals as goal

pub put_words-requires : goal.put_words-requires
unfolding kdof
put_words-requires c =
    let m : Numbers = c.args.set.now.numbers in
    let w : Width = m.config.«data» in
    omega (arith, c.requires.fits, c.block_words.ensures.long, c.put_padding.ensures.wrote.long, padded w (starts1_end m.config m.n) c.requires.place c.put_padding.ensures, masks-words w m.d)

pub returns-clause-puts : goal.returns-clause-puts
returns-clause-puts c =
    let w : Width = c.args.set.now.numbers.config.«data» in
    puts_as (puts_then c.put_padding.ensures c.put_words.ensures) (λ i. replicate (padding (size w) (c.requires.place i)) 0 ++ laid 8 (c.block_words.ensures.is i))

pub returns-clause-end : goal.returns-clause-end
unfolding kdof
returns-clause-end c =
    let m : Numbers = c.args.set.now.numbers in
    let w : Width = m.config.«data» in
    omega (arith, padded w (starts1_end m.config m.n) c.requires.place c.put_padding.ensures, masked w m.d _ c.block_words.ensures.long c.put_words.ensures)
