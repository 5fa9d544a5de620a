use Rattle.std.proofs.Common.{ℕ, ◌+◌, ◌≤◌, List, [], ◌∷◌, ◌++◌, length, sym, ap, ◌∙◌, arith}
use Rattle.packing.specs.Gathered.{gather}
use Rattle.packing.proofs.Lengths.{length_singles}
use Rattle.packing.proofs.Ranges.{gather_none, gather_more}
use Rattle.reader.specs.LittleEndian.{bytes, laid}
use Rattle.reader.proofs.LittleEndians.{length-laid}
use Rattle.serialization.specs.Stored.{field_at}
use Rattle.serialization.proofs.Laying.{laid_none, laid_more}
use Rattle.serialization.proofs.Puts.{puts_none, puts_then, puts_as}
use Rattle.serialization.proofs.write.Cursor.put_starts.Goals as goal

-- the first q starts
abbrev starts : List ℕ → ℕ → List ℕ
starts ws q = gather (λ t. field_at ws t ∷ []) q

pub loop-q-init : goal.loop-q-init
loop-q-init c = puts_as (puts_none c.args.self.now (omega (arith, c.requires.fits))) (sym (ap (laid 2) (gather_none (λ t. field_at c.args.words.now t ∷ [])) ∙ laid_none 2))

pub put_number-requires : goal.put_number-requires
put_number-requires c =
    let q : ℕ = c.loop-q.q in
    let ws : List ℕ = c.args.words.now in
    let h : c.loop-q.self.at + 2 ≤ length c.loop-q.self.buffer.now =
    omega (arith, c.loop-q.invariant.wrote.to, c.loop-q.invariant.wrote.long, length-laid 2 (starts ws q), length_singles (field_at ws) q, c.requires.fits) in
    h

pub loop-q-preserved : goal.loop-q-preserved
loop-q-preserved c =
    let q : ℕ = c.loop-q.q in
    let ws : List ℕ = c.args.words.now in
    puts_as (puts_then c.loop-q.invariant c.put_number.ensures)
    (ap (λ (x : ℕ). laid 2 (starts ws q) ++ bytes 2 x) c.start_in.ensures ∙ laid_more 2 (field_at ws q) (starts ws q) ∙ ap (laid 2) (sym (gather_more (λ t. field_at ws t ∷ []) q)))
