use Rattle.std.proofs.Common.{◌≡◌, ◌-◌, length, take, drop, rules, tests, sym, ◌∙◌}
use Rattle.std.specs.List.{position}
use Rattle.std.proofs.lemmas.Iterator.{YieldsList-from_slice}
use Rattle.std.proofs.lemmas.Iterator.Search.{position_from_yields_List}
use Rattle.commands.specs.Lines.{is_blank}
use Rattle.commands.proofs.Lines.{not_blank, words_next, words_none, found_more, found_all}
use Rattle.commands.proofs.line.words.Goals as goal

pub loop-start-preserved : goal.loop-start-preserved
loop-start-preserved c =
    let first : c.position.result ≡ position not_blank c.loop-start.rest.now =
    position_from_yields_List _ _ _ _ c.position.ensures.ran (YieldsList-from_slice c.loop-start.rest.now cc) (λ x b q k. search (rules, tests)) in
    let second : c.position-in-Some.result ≡ position is_blank (take (length c.loop-start.rest.now - c.in-Some.start) (drop c.in-Some.start c.loop-start.rest.now)) =
    position_from_yields_List _ _ _ _ c.position-in-Some.ensures.ran (YieldsList-from_slice (take (length c.loop-start.rest.now - c.in-Some.start) (drop c.in-Some.start c.loop-start.rest.now)) cc) (λ x b q k. search (rules, tests)) in
    found_more c.loop-start.found.items c.push.new.self.items _ c.loop-start.rest.now c.args.text.now _ c.in_ok-push.ensures.items
    (words_next c.loop-start.rest.now c.in-Some.start c.unwrap_or-end.result c.position-in-Some.result
    (sym first ∙ c.in-Some.is)
    (sym second)
    c.unwrap_or-end.ensures)
    c.loop-start.invariant

pub returns : goal.returns
returns c =
    let first : c.position.result ≡ position not_blank c.loop-start.rest.now =
    position_from_yields_List _ _ _ _ c.position.ensures.ran (YieldsList-from_slice c.loop-start.rest.now cc) (λ x b q k. search (rules, tests)) in
    found_all c.loop-start.found.items c.loop-start.rest.now c.args.text.now (words_none c.loop-start.rest.now (sym first ∙ c.in_default.is)) c.loop-start.invariant
