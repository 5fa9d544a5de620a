use Rattle.std.proofs.Common.{ℕ, ◌/◌, sym, ap, ◌∙◌, rules}
use Rattle.bit_block.specs.Widths.{bits}
use Rattle.bit_block.proofs.Words.{whole}
use Rattle.vetting.specs.Levels.{words_in}
use Rattle.vetting.specs.Rules.{raises_one}
use Rattle.vetting.proofs.Tested.{raises_some, raises_none}
use Rattle.vetting.proofs.rules.raises.Goals as goal

pub returns-then-word-ne0 : goal.returns-then-word-ne0
returns-then-word-ne0 g c =
    let ws = words_in c.args.level (g.P.Parts.parts c.args.parts.now) in
    sym (ap (λ (w : ℕ). raises_one ws w c.args.i) (whole c.args.width).0
    ∙ raises_some ws (bits c.args.width / 64) c.args.i c.loop-q.q (search rules) (search rules) (search rules))

pub returns : goal.returns
returns g c =
    let ws = words_in c.args.level (g.P.Parts.parts c.args.parts.now) in
    sym (ap (λ (w : ℕ). raises_one ws w c.args.i) (whole c.args.width).0
    ∙ raises_none ws (bits c.args.width / 64) c.args.i (λ q l. search rules))
