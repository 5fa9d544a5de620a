use Rattle.std.proofs.Common.{take}
use Rattle.reader.specs.LittleEndian.{laid}
use Rattle.serialization.specs.Writing.{Puts}
use Rattle.serialization.proofs.write.Cursor.put_words.Given as goal

abbrev pub invariant-loop-word : goal.invariant-loop-word
invariant-loop-word l = Puts l.initial.self l.self (laid 8 (take l.word-index l.words))
