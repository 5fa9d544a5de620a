use Rattle.std.proofs.Common.{ℕ, ◌+◌, ◌≤◌, List, length, get_or, take, sym, ap, ◌∙◌, arith}
use Rattle.std.proofs.lemmas.List.{take_more, length-take-le}
use Rattle.reader.specs.LittleEndian.{laid}
use Rattle.reader.proofs.LittleEndians.{length-laid}
use Rattle.serialization.proofs.Laying.{laid_none, laid_more}
use Rattle.serialization.proofs.Puts.{puts_none, puts_then, puts_as}
use Rattle.serialization.proofs.write.Cursor.put_words.Goals as goal

pub loop-word-init : goal.loop-word-init
loop-word-init c = puts_as (puts_none c.args.self.now (omega arith)) (sym (laid_none 8))

pub put_number-requires : goal.put_number-requires
put_number-requires c =
    let q : ℕ = c.loop-word.word-index in
    let ws : List ℕ = c.args.words.now in
    let h : c.loop-word.self.at + 8 ≤ length c.loop-word.self.buffer.now =
    omega (arith, c.loop-word.invariant.wrote.to, c.loop-word.invariant.wrote.long, length-laid 8 (take q ws), length-take-le q ws (omega arith), c.requires) in
    h

pub loop-word-preserved : goal.loop-word-preserved
loop-word-preserved c =
    let q : ℕ = c.loop-word.word-index in
    let ws : List ℕ = c.args.words.now in
    puts_as (puts_then c.loop-word.invariant c.put_number.ensures) (laid_more 8 (get_or ws q 0) (take q ws) ∙ ap (laid 8) (sym (take_more ws q 0 (omega arith))))
