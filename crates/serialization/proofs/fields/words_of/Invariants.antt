use Rattle.std.proofs.Common.{◌≡◌, length, take}
use Rattle.reader.specs.LittleEndian.{numbers}
use Rattle.serialization.proofs.fields.words_of.Given as goal

abbrev pub invariant-loop-q : goal.invariant-loop-q
invariant-loop-q l = record {
  long : length l.word-items ≡ 4;
  filled : take l.q l.word-items ≡ numbers 8 l.q l.bytes;
}
