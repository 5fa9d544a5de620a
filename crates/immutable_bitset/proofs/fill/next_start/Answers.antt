use Rattle.std.proofs.Common.{◌≡◌, ℕ, ◌<◌, List, length, get_or, sym, ap, ◌∙◌, arith}
use Rattle.std.proofs.lemmas.List.{get_or_default}
use Rattle.std.proofs.lemmas.Bool.{ltb-true, ltb-false}
use lib.Count.{ones, ones-le}
use Rattle.packing.proofs.Starts.{before_more, before-past, before_le, start_in, start-past}
use Rattle.immutable_bitset.proofs.fill.next_start.Goals as goal

-- the word that was read
word_is : (xs : List ℕ) (m w : ℕ) → m < length xs → w ≡ get_or xs m w → ones w ≡ ones (get_or xs m 0)
word_is xs m w h e = ap ones (e ∙ get_or_default xs m w 0 h)

pub overflow_cast-result : goal.overflow_cast-result
overflow_cast-result c =
    omega (
      arith,
      c.requires.sum,
      c.requires.few,
      ltb-true c.args.m (length c.args.level1.now) (sym c.in-Some.ensures.lookup.0),
      before_le c.args.level1.now (λ t. (c.type_inv.level1 t).fits) c.args.m,
    )

pub overflow_add-result : goal.overflow_add-result
overflow_add-result c =
    omega (
      arith,
      c.requires.sum,
      c.requires.near,
      before_le c.args.level1.now (λ t. (c.type_inv.level1 t).fits) c.args.m,
      word_is c.args.level1.now c.args.m c.in-Some.word.now (ltb-true c.args.m (length c.args.level1.now) (sym c.in-Some.ensures.lookup.0)) c.in-Some.ensures.lookup.1,
      ones-le 64 (get_or c.args.level1.now c.args.m 0) (c.type_inv.level1 c.args.m).fits,
    )

pub returns-in-Some : goal.returns-in-Some
returns-in-Some c =
    let here = ltb-true c.args.m (length c.args.level1.now) (sym c.in-Some.ensures.lookup.0) in
    record {
      start = c.requires.sum ∙ sym (start_in c.args.level1.now c.args.m here);
      next = omega (arith, c.requires.sum, before_more c.args.level1.now c.args.m here, word_is c.args.level1.now c.args.m c.in-Some.word.now here c.in-Some.ensures.lookup.1);
    }

pub returns-in-None : goal.returns-in-None
returns-in-None c =
    let past = ltb-false c.args.m (length c.args.level1.now) (sym c.in-None.ensures.lookup.0) in
    record {
      start = sym (start-past c.args.level1.now c.args.m past);
      next = c.requires.sum ∙ sym (before-past c.args.level1.now c.args.m past);
    }
