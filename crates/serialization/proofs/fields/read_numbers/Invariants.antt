use Rattle.std.proofs.Common.{◌≡◌, [], ◌∷◌, take, map, None}
use Rattle.reader.specs.Fields.{Took, many}
use Rattle.reader.specs.LittleEndian.{numbers}
use Rattle.serialization.proofs.fields.read_numbers.Given as goal

abbrev pub invariant-loop-number : goal.invariant-loop-number
invariant-loop-number g l = record {
  took : Took (many l.number-index g.row.N ∷ []) (g.R.Reader.means l.initial.reader) None (g.R.Reader.means l.reader);
  filled : map g.T.LittleEndian.number (take l.number-index l.room) ≡ numbers g.row.N l.number-index (g.R.Reader.means l.initial.reader).front.bytes;
}
