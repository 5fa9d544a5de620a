use Rattle.std.proofs.Common.{◌≡◌, ℕ, ◌+◌, ◌-◌, ◌*◌, List, [], ◌∷◌, ◌++◌, length, drop, Some, None, sym, ap, ◌∙◌, subst, ap₂, arith, rules}
use Rattle.std.proofs.lemmas.List.{take_more_set}
use Rattle.packing.proofs.Ranges.{gather_none, gather_more}
use Rattle.packing.specs.StartWords.{four_of}
use Rattle.reader.specs.Fields.{Took, many}
use Rattle.reader.specs.LittleEndian.{numbers}
use Rattle.reader.specs.Streams.{Stream}
use Rattle.reader.proofs.Fieldings.{run_none}
use Rattle.serialization.specs.Fieldwise.{least, Starts16}
use Rattle.serialization.proofs.Bodies.{least_more, small_none, small_more, least_none, least_rises, starts_then, starts_stop, start_word_is}
use Rattle.serialization.proofs.body.read_start_words.Goals as goal

pub loop-word-init : goal.loop-word-init
loop-word-init g c =
    let s : Stream = g.R.Reader.means c.args.reader.now in
    record {
      left = omega arith;
      took = subst (λ (n : ℕ). Took (many n 2 ∷ []) s None s) (sym (least_none c.args.count)) (run_none 2 s);
      filled = sym (gather_none _);
      small = small_none c.args.count s.front.bytes;
    }

pub returns-in_err-word-clause-took : goal.returns-in_err-word-clause-took
returns-in_err-word-clause-took g c =
    let i : ℕ = c.loop-word.word-index in
    let n : ℕ = c.args.count in
    let s : Stream = g.R.Reader.means c.args.reader.now in
    let t : Stream = g.R.Reader.means c.loop-word.reader in
    let u : Stream = g.R.Reader.means c.read_start_word.new.reader in
    let e = c.in_err-word.field-0.0 in
    let q : Took (many (least (n - 4 * i) 4) 2 ∷ []) t (Some e) u = subst (λ (k : ℕ). Took (many (least k 4) 2 ∷ []) t (Some e) u) c.loop-word.invariant.left c.in_err-word.ensures.took in
    let h = starts_stop (least n (4 * i) + least (n - 4 * i) 4) (least n (4 * length c.args.out.now)) e s u (omega (arith, least_more n i, least_rises n i (length c.args.out.now) (omega arith)))
    (starts_then (least n (4 * i)) (least (n - 4 * i) 4) (Some e) s t u c.loop-word.invariant.took q) in
    search rules

pub loop-word-preserved : goal.loop-word-preserved
loop-word-preserved g c =
    let i : ℕ = c.loop-word.word-index in
    let n : ℕ = c.args.count in
    let s : Stream = g.R.Reader.means c.args.reader.now in
    let t : Stream = g.R.Reader.means c.loop-word.reader in
    let u : Stream = g.R.Reader.means c.read_start_word.new.reader in
    let v = c.loop-word.invariant in
    let q : Took (many (least (n - 4 * i) 4) 2 ∷ []) t None u = subst (λ (k : ℕ). Took (many (least k 4) 2 ∷ []) t None u) v.left c.in_ok-word.ensures.took in
    let word : c.in_ok-word.field-0 ≡ four_of (drop (4 * i) (numbers 2 n s.front.bytes)) =
    c.in_ok-word.ensures.gives ∙ ap (λ (k : ℕ). four_of (numbers 2 (least k 4) t.front.bytes)) v.left ∙ start_word_is i n s t v.took in
    record {
      left = omega (arith, v.left, c.saturating_sub-left.ensures);
      took = subst (λ (k : ℕ). Took (many k 2 ∷ []) s None u) (least_more n i) (starts_then (least n (4 * i)) (least (n - 4 * i) 4) None s t u v.took q);
      filled = take_more_set c.loop-word.out i c.in_ok-word.field-0 (omega arith)
          ∙ ap₂ (λ (xs : List ℕ) (x : ℕ). xs ++ x ∷ []) v.filled word
          ∙ sym (gather_more _ i);
      small = small_more n i s t v.took v.small (subst (λ (k : ℕ). Starts16 (numbers 2 (least k 4) t.front.bytes)) v.left c.in_ok-word.ensures.small);
    }
