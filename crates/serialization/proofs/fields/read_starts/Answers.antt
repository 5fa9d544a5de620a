use Rattle.std.proofs.Common.{List, sym, ◌∙◌, ℕ, arith}
use Rattle.std.proofs.lemmas.List.{map-id}
use Rattle.reader.specs.Fields.{many}
use Rattle.reader.proofs.Fieldings.{size_of-one}
use Rattle.reader.proofs.LittleEndians.{numbers_bytes}
use Rattle.serialization.proofs.fields.read_starts.Goals as goal

pub returns-clause-gives : goal.returns-clause-gives
returns-clause-gives g c =
    let xs : List ℕ = (g.R.Reader.means c.args.reader.now).front.bytes in
    sym (map-id c.read_numbers.new.room) ∙ c.in_ok-read_numbers.ensures.gives ∙ numbers_bytes 8 xs (omega (arith, c.in_ok-read_numbers.ensures.took.0, size_of-one (many 8 1)))
