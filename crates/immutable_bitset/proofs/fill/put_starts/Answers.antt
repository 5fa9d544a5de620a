use Rattle.std.proofs.Common.{◌≡◌, ℕ, ◌+◌, ◌*◌, List, [], ◌∷◌, ◌++◌, take, sym, ap, ◌∙◌, arith}
use Rattle.packing.specs.Packed.{before, four, start_words_to}
use Rattle.packing.proofs.Ranges.{gather_none, gather_more}
use Rattle.packing.proofs.Starts.{before-none}
use Rattle.packing.proofs.Writes.{wrote_none, wrote_one, wrote_as, wrote_below}
use Rattle.immutable_bitset.proofs.fill.put_starts.Goals as goal

pub loop-q-init : goal.loop-q-init
loop-q-init c = record {
  wrote = wrote_as (wrote_none c.args.words.now c.args.len (omega arith)) (sym (gather_none _)) (omega arith);
  sum = sym (before-none (take c.args.len c.args.words.now));
}

pub start_word-word-requires-clause-sum : goal.start_word-word-requires-clause-sum
start_word-word-requires-clause-sum c =
    c.loop-q.invariant.sum ∙ ap (λ (xs : List ℕ). before xs (4 * c.loop-q.q)) (sym (wrote_below c.loop-q.invariant.wrote))

pub loop-q-preserved : goal.loop-q-preserved
loop-q-preserved c =
    let v = c.loop-q.invariant in
    let q : ℕ = c.loop-q.q in
    let xs : List ℕ = take c.args.len c.args.words.now in
    let e : take c.args.len c.loop-q.words ≡ xs = wrote_below v.wrote in
    let more : 4 * q + 4 ≡ 4 * (q + 1) = omega arith in
    record {
      wrote =
          wrote_as (wrote_one v.wrote c.start_word-word.result.0 (omega (arith, v.wrote.long, c.requires.fits, c.start_words_len-count.ensures)))
          (ap (λ (w : ℕ). start_words_to xs q ++ w ∷ []) (c.start_word-word.ensures.word ∙ ap (λ (l : List ℕ). four l (4 * q)) e) ∙ sym (gather_more _ q)) (omega arith);
      sum = c.start_word-word.ensures.next ∙ ap (λ (l : List ℕ). before l (4 * q + 4)) e ∙ ap (before xs) more;
    }
