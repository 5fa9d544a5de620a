use Rattle.std.proofs.Common.{◌≡◌, [], ◌∷◌, ◌*◌, ◌-◌, take, None}
use Rattle.reader.specs.Fields.{Took, many}
use Rattle.reader.specs.LittleEndian.{numbers}
use Rattle.serialization.specs.Bodies.{start_words_in}
use Rattle.serialization.specs.Fieldwise.{least, Starts16}
use Rattle.serialization.proofs.body.read_start_words.Given as goal

-- the starts of the words so far are read
abbrev pub invariant-loop-word : goal.invariant-loop-word
invariant-loop-word g l = record {
  left : l.left ≡ l.fn.count - 4 * l.word-index;
  took : Took (many (least l.fn.count (4 * l.word-index)) 2 ∷ []) (g.R.Reader.means l.initial.reader) None (g.R.Reader.means l.reader);
  filled : take l.word-index l.out ≡ start_words_in l.fn.count (g.R.Reader.means l.initial.reader).front.bytes l.word-index;
  small : Starts16 (numbers 2 (least l.fn.count (4 * l.word-index)) (g.R.Reader.means l.initial.reader).front.bytes);
}
