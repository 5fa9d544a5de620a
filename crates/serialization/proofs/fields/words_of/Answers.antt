use Rattle.std.proofs.Common.{◌≡◌, ℕ, ◌*◌, ◌/◌, List, [], ◌∷◌, ◌++◌, length, get_or, take, drop, sym, refl, ap, ◌∙◌, ap₂, arith}
use Rattle.std.proofs.lemmas.List.{take_more_set, length-set}
use Rattle.reader.specs.LittleEndian.{value}
use Rattle.reader.proofs.LittleEndians.{value_8, numbers_none, numbers_more}
use Rattle.serialization.proofs.Requests.{chunk_at, length_chunk}
use Rattle.serialization.proofs.fields.words_of.Goals as goal

pub loop-q-init : goal.loop-q-init
loop-q-init c = record { long = refl; filled = sym (numbers_none 8 c.args.bytes.now) }

pub loop-q-preserved : goal.loop-q-preserved
loop-q-preserved c =
    let q : ℕ = c.loop-q.q in
    let bs : List ℕ = c.args.bytes.now in
    let chunk : List ℕ = get_or c.as_chunks.result.0.now q [] in
    let e : chunk ≡ take 8 (drop (q * 8) bs) = ap (λ (xs : List (List ℕ)). get_or xs q []) c.as_chunks.ensures.front ∙ chunk_at 8 (length bs / 8) bs q (omega (arith, c.told-bytes)) in
    let l : length chunk ≡ 8 = ap length e ∙ length_chunk 8 q bs (omega (arith, c.told-bytes)) in
    let word : c.from_le_bytes.result ≡ value (take 8 (drop (q * 8) bs)) = c.from_le_bytes.ensures ∙ value_8 chunk l ∙ ap value e in
    record {
      long = length-set c.loop-q.word-items q c.from_le_bytes.result ∙ c.loop-q.invariant.long;
      filled = take_more_set c.loop-q.word-items q c.from_le_bytes.result (omega (arith, c.loop-q.invariant.long))
          ∙ ap₂ (λ (xs : List ℕ) (x : ℕ). xs ++ x ∷ []) c.loop-q.invariant.filled word
          ∙ sym (numbers_more 8 q bs);
    }
