use Rattle.std.proofs.Common.{◌≡◌, ◌==◌, refl, rules, tests}
use Rattle.std.specs.List.{position}
use Rattle.std.specs.Io.BufRead.{strip_last}
use Rattle.std.proofs.lemmas.Iterator.{YieldsList-from_slice}
use Rattle.std.proofs.lemmas.Iterator.Search.{position_from_yields_List}
use Rattle.commands.proofs.Lines.{take-position, stripped_byte}
use Rattle.commands.proofs.line.command_part.Goals as goal

pub returns : goal.returns
returns c =
    let one : c.unwrap_or-line.result.now ≡ strip_last 10 c.args.line.now =
    rw c.unwrap_or-line.ensures (stripped_byte 10 c.args.line.now c.strip_suffix.result c.args.line refl c.strip_suffix.ensures.cases) in
    let two : c.unwrap_or-line-2.result.now ≡ strip_last 13 c.unwrap_or-line.result.now =
    rw c.unwrap_or-line-2.ensures (stripped_byte 13 c.unwrap_or-line.result.now c.strip_suffix-2.result c.unwrap_or-line.result refl c.strip_suffix-2.ensures.cases) in
    let found : c.position.result ≡ position (λ b. b == 35) c.unwrap_or-line-2.result.now =
    position_from_yields_List _ _ _ _ c.position.ensures.ran (YieldsList-from_slice c.unwrap_or-line-2.result.now cc) (λ x b q k. search (rules, tests)) in
    rw (← one, ← two) (rw (c.unwrap_or-end.ensures, found) (take-position (λ b. b == 35) c.unwrap_or-line-2.result.now))
