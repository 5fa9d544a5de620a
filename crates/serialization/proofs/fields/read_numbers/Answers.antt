use Rattle.std.proofs.Common.{◌≡◌, ℕ, ◌*◌, List, [], ◌∷◌, ◌++◌, length, take, drop, map, sym, ap, ◌∙◌, ap₂, arith, rules}
use Rattle.std.proofs.lemmas.List.{take_more_set, map-append}
use Rattle.reader.specs.Streams.{Stream}
use Rattle.reader.specs.Fields.{many, size_of}
use Rattle.reader.specs.LittleEndian.{value}
use Rattle.reader.proofs.Fieldings.{run_none, run_more, run_stop, size_of-one}
use Rattle.reader.proofs.LittleEndians.{numbers_none, numbers_more}
use Rattle.serialization.proofs.fields.read_numbers.Goals as goal

pub loop-number-init : goal.loop-number-init
loop-number-init g c = record {
  took = run_none g.row.N (g.R.Reader.means c.args.reader.now);
  filled = sym (numbers_none g.row.N (g.R.Reader.means c.args.reader.now).front.bytes);
}

pub returns-in_err-number-clause-took : goal.returns-in_err-number-clause-took
returns-in_err-number-clause-took g c =
    let s : Stream = g.R.Reader.means c.args.reader.now in
    let h = run_stop c.loop-number.number-index (length c.args.room.now) g.row.N c.in_err-number.field-0.0 s (g.R.Reader.means c.loop-number.reader) (g.R.Reader.means c.read_number.new.reader) c.loop-number.invariant.took c.in_err-number.ensures.took (omega arith) in
    search rules

pub loop-number-preserved : goal.loop-number-preserved
loop-number-preserved g c =
    let i : ℕ = c.loop-number.number-index in
    let k : ℕ = g.row.N in
    let s : Stream = g.R.Reader.means c.args.reader.now in
    let t : Stream = g.R.Reader.means c.loop-number.reader in
    let z : size_of (many i k ∷ []) ≡ i * k = size_of-one (many i k) in
    let value_is : g.T.LittleEndian.number c.in_ok-number.field-0 ≡ value (take k (drop (i * k) s.front.bytes)) =
    c.in_ok-number.ensures.gives ∙ ap (λ (x : Stream). value (take k x.front.bytes)) c.loop-number.invariant.took.1 ∙ ap (λ (n : ℕ). value (take k (drop n s.front.bytes))) z in
    record {
      took = run_more i k s t (g.R.Reader.means c.read_number.new.reader) c.loop-number.invariant.took c.in_ok-number.ensures.took;
      filled = ap (map g.T.LittleEndian.number) (take_more_set c.loop-number.room i c.in_ok-number.field-0 (omega arith))
          ∙ map-append g.T.LittleEndian.number (take i c.loop-number.room) (c.in_ok-number.field-0 ∷ [])
          ∙ ap₂ (λ (xs : List ℕ) (x : ℕ). xs ++ x ∷ []) c.loop-number.invariant.filled value_is
          ∙ sym (numbers_more k i s.front.bytes);
    }
