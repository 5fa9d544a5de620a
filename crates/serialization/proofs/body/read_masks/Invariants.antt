use Rattle.std.proofs.Common.{[], ◌∷◌, ◌*◌, None}
use Rattle.packing.specs.Wrote.{Wrote}
use Rattle.reader.specs.Fields.{Took, many}
use Rattle.reader.specs.LittleEndian.{numbers}
use Rattle.serialization.specs.Layout.{size, words}
use Rattle.serialization.proofs.body.read_masks.Given as goal

-- q masks are read
abbrev pub invariant-loop-q : goal.invariant-loop-q
invariant-loop-q g l = record {
  took : Took (many l.q (size l.width) ∷ []) (g.R.Reader.means l.initial.reader) None (g.R.Reader.means l.reader);
  filled : Wrote l.initial.out l.out 0 (numbers 8 (l.q * words l.width) (g.R.Reader.means l.initial.reader).front.bytes) (l.q * words l.width);
}
