use Rattle.std.proofs.Common.{ℕ, [], ◌∷◌, take, replicate, subst, arith}
use Rattle.std.proofs.lemmas.List.{length-take-le}
use Rattle.reader.specs.Streams.{Stream}
use Rattle.reader.specs.Fields.{Took, one, faulted}
use Rattle.serialization.proofs.Requests.{took_any}
use Rattle.serialization.proofs.fields.skip_padding.Goals as goal

pub returns : goal.returns
returns g c =
    let k : ℕ = c.padding_for.result in
    let s : Stream = g.R.Reader.means c.args.reader.now in
    let t : Stream = g.R.Reader.means c.read_exact.new.self in
    subst (λ (n : ℕ). Took (one n ∷ []) s (faulted c.read_exact.result) t) c.padding_for.ensures.is
    (took_any k s t (take k (replicate 32 0)) c.read_exact.new.buf c.read_exact.result (length-take-le k (replicate 32 0) (omega (arith, c.padding_for.ensures.small))) c.read_exact.ensures)
