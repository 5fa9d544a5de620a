use Rattle.std.proofs.Common.{◌≡◌, arith, rules}
use Rattle.commands.specs.declared.verb.Verb.TheVariants as verb
use Rattle.commands.specs.Verbs.{verb_word}
use Rattle.commands.specs.Commands.{SpellsSpan, SpellsPlace, SpellsPair}
use Rattle.commands.proofs.Commands.{IfErr-all, of_verb, operand_count, no_mark, no_clear, no_has, no_next, no_check, at_two, at_three}
use Rattle.commands.proofs.command.parse.Goals as goal

pub returns-in_err-try_from-in-Mark-len3-clause-err : goal.returns-in_err-try_from-in-Mark-len3-clause-err
returns-in_err-try_from-in-Mark-len3-clause-err c =
    let is : c.args.word.now ≡ verb_word verb.Mark = search rules in
    IfErr-all _ c.from_residual-in_err-try_from-in-Mark-len3.result
    (of_verb c.args.word.now c.args.operands.now verb.Mark is
    (no_mark c.args.operands.now (λ s h. c.in_err-try_from-in-Mark-len3.ensures s (at_three (λ ops. SpellsSpan ops s) c.args.operands.now _ _ _ (omega arith) h))))

pub returns-in_err-try_from-in-Clear-len3-clause-err : goal.returns-in_err-try_from-in-Clear-len3-clause-err
returns-in_err-try_from-in-Clear-len3-clause-err c =
    let is : c.args.word.now ≡ verb_word verb.Clear = search rules in
    IfErr-all _ c.from_residual-in_err-try_from-in-Clear-len3.result
    (of_verb c.args.word.now c.args.operands.now verb.Clear is
    (no_clear c.args.operands.now (λ s h. c.in_err-try_from-in-Clear-len3.ensures s (at_three (λ ops. SpellsSpan ops s) c.args.operands.now _ _ _ (omega arith) h))))

pub returns-in_err-try_from-in-Has-len2-clause-err : goal.returns-in_err-try_from-in-Has-len2-clause-err
returns-in_err-try_from-in-Has-len2-clause-err c =
    let is : c.args.word.now ≡ verb_word verb.Has = search rules in
    IfErr-all _ c.from_residual-in_err-try_from-in-Has-len2.result
    (of_verb c.args.word.now c.args.operands.now verb.Has is
    (no_has c.args.operands.now (λ s h. c.in_err-try_from-in-Has-len2.ensures s (at_two (λ ops. SpellsPlace ops s) c.args.operands.now _ _ (omega arith) h))))

pub returns-in_err-try_from-in-Next-len2-clause-err : goal.returns-in_err-try_from-in-Next-len2-clause-err
returns-in_err-try_from-in-Next-len2-clause-err c =
    let is : c.args.word.now ≡ verb_word verb.Next = search rules in
    IfErr-all _ c.from_residual-in_err-try_from-in-Next-len2.result
    (of_verb c.args.word.now c.args.operands.now verb.Next is
    (no_next c.args.operands.now (λ s h. c.in_err-try_from-in-Next-len2.ensures s (at_two (λ ops. SpellsPlace ops s) c.args.operands.now _ _ (omega arith) h))))

pub returns-in_err-try_from-in-Check-len2-clause-err : goal.returns-in_err-try_from-in-Check-len2-clause-err
returns-in_err-try_from-in-Check-len2-clause-err c =
    let is : c.args.word.now ≡ verb_word (verb.Check c.in-Check-len2.rule) = search rules in
    IfErr-all _ c.from_residual-in_err-try_from-in-Check-len2.result
    (of_verb c.args.word.now c.args.operands.now (verb.Check c.in-Check-len2.rule) is
    (no_check c.in-Check-len2.rule c.args.operands.now (λ s h. c.in_err-try_from-in-Check-len2.ensures s (at_two (λ ops. SpellsPair ops s) c.args.operands.now _ _ (omega arith) h))))

pub returns-in_default-clause-err : goal.returns-in_default-clause-err
returns-in_default-clause-err c = of_verb _ _ c.in_ok-verb.verb c.in_ok-verb.ensures (λ k spells.
    let n = operand_count _ _ k spells in
    search rules)
