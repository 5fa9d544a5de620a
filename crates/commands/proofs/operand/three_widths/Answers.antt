use Rattle.std.proofs.Common.{rules, tests}
use Rattle.commands.proofs.Widths.{begins_split, gives_one, same_part, three_texts, ends_config}
use Rattle.commands.proofs.operand.three_widths.Goals as goal

pub returns-in_err-level0 : goal.returns-in_err-level0
returns-in_err-level0 c =
    let none = begins_split _ _ _ _ c.args.text.now c.split-parts.ensures.runs c.split-parts.ensures.rest c.split-parts.ensures.done c.split-parts.ensures.closure (λ x b q k. search (rules, tests)) in
    let one = gives_one none c.next.new.self c.in_ok-next.field-0 c.in_ok-next.ensures.steps in
    rw c.from_residual-in_err-level0.ensures (λ k e. c.in_err-level0.ensures k.level0 (same_part c.args.text.now one k e 0))

pub returns-in_err-level1 : goal.returns-in_err-level1
returns-in_err-level1 c =
    let none = begins_split _ _ _ _ c.args.text.now c.split-parts.ensures.runs c.split-parts.ensures.rest c.split-parts.ensures.done c.split-parts.ensures.closure (λ x b q k. search (rules, tests)) in
    let one = gives_one none c.next.new.self c.in_ok-next.field-0 c.in_ok-next.ensures.steps in
    let two = gives_one one c.next-2.new.self c.in_ok-next-2.field-0 c.in_ok-next-2.ensures.steps in
    rw c.from_residual-in_err-level1.ensures (λ k e. c.in_err-level1.ensures k.level1 (same_part c.args.text.now two k e 1))

pub returns-in_err-data : goal.returns-in_err-data
returns-in_err-data c =
    let none = begins_split _ _ _ _ c.args.text.now c.split-parts.ensures.runs c.split-parts.ensures.rest c.split-parts.ensures.done c.split-parts.ensures.closure (λ x b q k. search (rules, tests)) in
    let one = gives_one none c.next.new.self c.in_ok-next.field-0 c.in_ok-next.ensures.steps in
    let two = gives_one one c.next-2.new.self c.in_ok-next-2.field-0 c.in_ok-next-2.ensures.steps in
    let three = gives_one two c.next-3.new.self c.in_ok-next-3.field-0 c.in_ok-next-3.ensures.steps in
    rw c.from_residual-in_err-data.ensures (λ k e. c.in_err-data.ensures k.«data» (same_part c.args.text.now three k e 2))

pub returns : goal.returns
returns c =
    let none = begins_split _ _ _ _ c.args.text.now c.split-parts.ensures.runs c.split-parts.ensures.rest c.split-parts.ensures.done c.split-parts.ensures.closure (λ x b q k. search (rules, tests)) in
    let one = gives_one none c.next.new.self c.in_ok-next.field-0 c.in_ok-next.ensures.steps in
    let two = gives_one one c.next-2.new.self c.in_ok-next-2.field-0 c.in_ok-next-2.ensures.steps in
    let three = gives_one two c.next-3.new.self c.in_ok-next-3.field-0 c.in_ok-next-3.ensures.steps in
    rw c.then_some.ensures (ends_config c.args.text.now three _ (three_texts _ _ _ _ c.in_ok-level0.ensures c.in_ok-level1.ensures c.in_ok-data.ensures) c.next-4.result c.next-4.new.self c.is_none.result c.next-4.ensures.steps c.is_none.ensures)
