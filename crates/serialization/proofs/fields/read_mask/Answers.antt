use Rattle.std.proofs.Common.{◌≡◌, ℕ, ◌-◌, List, ◌++◌, length, take, drop, replicate, ap, ◌∙◌, ap₂, arith}
use Rattle.std.proofs.lemmas.List.{length-take-le}
use Rattle.std.proofs.lemmas.Result.{err_from_is_err_and}
use Rattle.bit_block.specs.declared.config.Width.{Width}
use Rattle.reader.specs.Streams.{Stream}
use Rattle.reader.proofs.Fieldings.{took_one, took_not}
use Rattle.serialization.specs.Layout.{size}
use Rattle.serialization.proofs.Requests.{mask_is, zeros_behind}
use Rattle.serialization.proofs.fields.read_mask.Goals as goal

pub returns-in_err-read_exact-clause-took : goal.returns-in_err-read_exact-clause-took
returns-in_err-read_exact-clause-took g c =
    let p = err_from_is_err_and c.from_residual.result c.from_residual.ensures.1 in
    let s : Stream = g.R.Reader.means c.args.reader.now in
    let t : Stream = g.R.Reader.means c.read_exact.new.self in
    let k : ℕ = c.mask_size.result in
    let f = c.in_err-read_exact.field-0.0 in
    let l : length (take k (replicate 32 0)) ≡ size c.args.width = length-take-le k (replicate 32 0) (omega (arith, c.mask_size.ensures.small)) ∙ c.mask_size.ensures.is in
    rw (p.1, p.2) (took_not (size c.args.width) s t (take k (replicate 32 0)) c.read_exact.new.buf f l c.in_err-read_exact.ensures)

pub returns : goal.returns
returns g c =
    let s : Stream = g.R.Reader.means c.args.reader.now in
    let t : Stream = g.R.Reader.means c.read_exact.new.self in
    let w : Width = c.args.width in
    let k : ℕ = c.mask_size.result in
    let buf : List ℕ = c.read_exact.new.buf in
    let h = c.in_ok-read_exact.ensures in
    let l : length (take k (replicate 32 0)) ≡ size w = length-take-le k (replicate 32 0) (omega (arith, c.mask_size.ensures.small)) ∙ c.mask_size.ensures.is in
    let b : List ℕ = buf ++ drop k (replicate 32 0) in
    let e : b ≡ take (size w) s.front.bytes ++ replicate (32 - size w) 0 = ap₂ (λ (x y : List ℕ). x ++ y) (h.1 ∙ ap (λ (n : ℕ). take n s.front.bytes) l) (zeros_behind w k c.mask_size.ensures.is) in
    record {
      took = took_one (size w) s t (take k (replicate 32 0)) buf tt l h;
      gives = c.words_of.ensures ∙ mask_is w s.front.bytes b (omega (arith, h.0, l)) e;
    }
