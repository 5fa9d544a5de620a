use Rattle.std.proofs.Common.{ℕ, replicate}
use Rattle.std.proofs.lemmas.List.{length-replicate}
use Rattle.std.proofs.lemmas.Result.{err_from_is_err_and}
use Rattle.reader.specs.Streams.{Stream}
use Rattle.reader.proofs.Fieldings.{took_one, took_not}
use Rattle.serialization.proofs.fields.read_number.Goals as goal

pub returns-in_err-read_exact-clause-took : goal.returns-in_err-read_exact-clause-took
returns-in_err-read_exact-clause-took g c =
    let p = err_from_is_err_and c.from_residual.result c.from_residual.ensures.1 in
    let k : ℕ = g.row.N in
    let s : Stream = g.R.Reader.means c.args.reader.now in
    rw (p.1, p.2) (took_not k s (g.R.Reader.means c.read_exact.new.self) (replicate k 0) c.read_exact.new.buf c.in_err-read_exact.field-0.0 (length-replicate k 0) c.in_err-read_exact.ensures)

pub returns-clause-took : goal.returns-clause-took
returns-clause-took g c =
    let k : ℕ = g.row.N in
    let s : Stream = g.R.Reader.means c.args.reader.now in
    took_one k s (g.R.Reader.means c.read_exact.new.self) (replicate k 0) c.read_exact.new.buf tt (length-replicate k 0) c.in_ok-read_exact.ensures
