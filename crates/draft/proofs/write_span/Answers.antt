use Rattle.std.proofs.Common.{◌≡◌, ℕ, ◌+◌, ◌*◌, ◌-◌, ◌/◌, ◌<◌, ◌≤◌, Bool, cond, length, get_or, drop, ap, ◌∙◌, subst, arith, rules}
use borrow.Rule.Slice.PartMut.{mid_of}
use Rattle.std.proofs.lemmas.List.{length-take-le, length-drop}
use Rattle.std.proofs.lemmas.Grind.{div_ceil_times}
use Rattle.bit_block.specs.Bit.{bit_of}
use Rattle.draft.proofs.Spans.{Reached, reached_none, reached_more, reached_all}
use Rattle.draft.proofs.write_span.Goals as goal

pub loop-q-init : goal.loop-q-init
loop-q-init c = reached_none c.args.on c.args.from c.args.to (c.args.from / 64) (mid_of (c.args.from / 64) (c.div_ceil-last.result - c.args.from / 64) c.args.words.now)

pub loop-q-preserved : goal.loop-q-preserved
loop-q-preserved c =
    reached_more c.args.on c.args.from c.args.to (c.args.from / 64) _ c.loop-q.q c.splice.result c.loop-q.word-items
    (search rules) c.loop-q.invariant
    (λ k h. c.splice.ensures k h ∙ ap (λ (b : Bool). cond b c.args.on (bit_of (get_or c.loop-q.word-items c.loop-q.q 0) k)) (c.span.ensures k h))

pub returns : goal.returns
returns c =
    let last : ℕ = c.div_ceil-last.result in
    let ceil = div_ceil_times c.args.to 64 (omega arith) in
    let top : c.args.to ≤ last * 64 = omega (arith, ceil.0, c.div_ceil-last.ensures) in
    let tight : last * 64 < c.args.to + 64 = omega (arith, ceil.1, c.div_ceil-last.ensures) in
    let room : last ≤ length c.args.words.now = omega (arith, tight, c.requires.within) in
    let all : c.loop-q.q ≡ last - c.args.from / 64 = omega (arith, c.loop-q-test.false, c.loop-q.auto.q-end, length-take-le (last - c.args.from / 64) (drop (c.args.from / 64) c.args.words.now) (omega (arith, length-drop (c.args.from / 64) c.args.words.now))) in
    reached_all c.args.on c.args.from c.args.to last c.args.words.now c.loop-q.word-items c.requires.order (omega (arith, top, c.requires.order)) top tight room
    (subst (λ (n : ℕ). Reached c.args.on c.args.from c.args.to (c.args.from / 64) n (mid_of (c.args.from / 64) (last - c.args.from / 64) c.args.words.now) c.loop-q.word-items) all c.loop-q.invariant)
    (search rules)
