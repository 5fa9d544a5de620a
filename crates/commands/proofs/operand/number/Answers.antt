use Rattle.std.proofs.Common.{◌≡◌, ◌^◌, ◌<◌}
use Rattle.std.proofs.lemmas.Result.{OkIff-at_ok, OkIff-at_err}
use Rattle.commands.specs.Operands.{Decimal, decimal_value}
use Rattle.commands.proofs.Spelled.{read_decimal, decimal_utf8, IsOk-text}
use Rattle.commands.proofs.operand.number.Goals as goal

pub unwrap-digits-requires : goal.unwrap-digits-requires
unwrap-digits-requires c = IsOk-text _ _ c.args.word.now c.from_utf8.result (decimal_utf8 c.args.word.now c.if-not-is_decimal.ensures) c.from_utf8.ensures.cases

pub returns-in_default : goal.returns-in_default
returns-in_default c =
    let text : c.unwrap-digits.result.now ≡ c.args.word.now = (rw c.unwrap-digits.ensures at c.from_utf8.ensures.cases).0 in
    OkIff-at_err c.parse.result (Decimal c.args.word.now × (decimal_value c.args.word.now < 2 ^ 64)) (decimal_value c.args.word.now) c.in_default.field-0
    (read_decimal c.args.word.now c.unwrap-digits.result.now c.parse.result text c.parse.ensures.value.0 c.if-not-is_decimal.ensures)
    c.in_default.is

pub returns : goal.returns
returns c =
    let text : c.unwrap-digits.result.now ≡ c.args.word.now = (rw c.unwrap-digits.ensures at c.from_utf8.ensures.cases).0 in
    OkIff-at_ok c.parse.result (Decimal c.args.word.now × (decimal_value c.args.word.now < 2 ^ 64)) (decimal_value c.args.word.now) c.in-Ok.value
    (read_decimal c.args.word.now c.unwrap-digits.result.now c.parse.result text c.parse.ensures.value.0 c.if-not-is_decimal.ensures)
    c.in-Ok.is
