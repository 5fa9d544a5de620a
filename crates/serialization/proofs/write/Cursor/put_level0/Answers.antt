use Rattle.std.proofs.Common.{◌≡◌, ℕ, ◌*◌, ◌/◌, List, ◌++◌, length, take, replicate, ap, ◌∙◌, ap₂, arith, rules}
use Rattle.std.proofs.lemmas.List.{length-take-le}
use Rattle.bit_block.specs.declared.config.Width.{Width}
use Rattle.bit_block.proofs.Places.{sized}
use Rattle.packing.specs.declared.Numbers.{Numbers}
use Rattle.reader.specs.LittleEndian.{laid}
use Rattle.serialization.specs.Layout.{size, words, padding}
use Rattle.serialization.proofs.Laying.{padded, masked}
use Rattle.serialization.proofs.Puts.{puts_then, puts_as}
use Rattle.serialization.proofs.write.Cursor.put_level0.Goals as goal

-- the mask has the first words of four
top_long : (w : Width) (ws : List ℕ) (k : ℕ) → length ws ≡ 4 → k ≡ words w → length (take k ws) ≡ 1 * words w
top_long w ws k four e = length-take-le k ws (omega (arith, four, e, (sized w).most)) ∙ (let z : k ≡ 1 * words w = omega (arith, e) in z)

pub put_bytes-requires : goal.put_bytes-requires
put_bytes-requires c =
    let m : Numbers = c.args.numbers in
    let four : length m.level0.words ≡ 4 = search rules in
    let eight : length m.starts ≡ 8 = search rules in
    omega (
      arith,
      c.requires.fits,
      padded m.config.level0 8 c.requires.place c.put_padding.ensures,
      masked m.config.level0 1 _ (top_long m.config.level0 m.level0.words (c.bits-top.result / 64) four (ap (λ (x : ℕ). x / 64) c.bits-top.ensures)) c.put_words.ensures,
      c.put_padding.ensures.wrote.long,
      c.put_words.ensures.wrote.long,
    )

pub returns-clause-puts : goal.returns-clause-puts
returns-clause-puts c =
    let m : Numbers = c.args.numbers in
    puts_as (puts_then (puts_then c.put_padding.ensures c.put_words.ensures) c.put_bytes.ensures)
    (ap₂ (λ (a b : ℕ). replicate (padding (size m.config.level0) a) 0 ++ laid 8 (take (b / 64) m.level0.words) ++ m.starts) c.requires.place c.bits-top.ensures)

pub returns-clause-end : goal.returns-clause-end
returns-clause-end c =
    let m : Numbers = c.args.numbers in
    let four : length m.level0.words ≡ 4 = search rules in
    let eight : length m.starts ≡ 8 = search rules in
    omega (
      arith,
      padded m.config.level0 8 c.requires.place c.put_padding.ensures,
      masked m.config.level0 1 _ (top_long m.config.level0 m.level0.words (c.bits-top.result / 64) four (ap (λ (x : ℕ). x / 64) c.bits-top.ensures)) c.put_words.ensures,
      c.put_bytes.ensures.wrote.to,
    )
