use Rattle.std.proofs.Common.{ℕ, ◌-◌, length, sym, ap, ◌∙◌, arith, length-take}
use Rattle.std.proofs.lemmas.List.{take-take}
use Rattle.reader.specs.Streams.{Coming, Stream, past}
use Rattle.reader.specs.Reads.{over}
use Rattle.reader.proofs.Streaming.{past-limited}
use Rattle.reader.proofs.LimitReader.read_exact.Goals as goal

pub returns : goal.returns
returns g c =
    let h = c.in_ok-read_exact.ensures in
    let m : ℕ = c.args.self.now.left in
    let n : ℕ = length c.args.buf.now in
    let s : Stream = g.R.Reader.means c.args.self.now.inner in (
      omega (arith, h.0, c.if-self-n.false, length-take m s.front.bytes),
      h.1 ∙ sym (take-take n m s.front.bytes c.if-self-n.false),
      ap (over (m - n)) h.2 ∙ ap (λ (x : Coming). record { front = x; below = past n s.below; lender = s.lender }) (past-limited m n s.front c.if-self-n.false),
    )
