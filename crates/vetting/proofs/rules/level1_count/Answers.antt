use Rattle.std.proofs.Common.{ℕ, ◌==◌, ap, ap₂, ◌∙◌}
use Rattle.bit_block.specs.Raised.{raised}
use Rattle.bit_block.specs.Ranges.{count}
use Rattle.vetting.specs.Rules.{first_not, broken_at}
use Rattle.vetting.proofs.Level0.{same_count}
use Rattle.vetting.proofs.rules.level1_count.Goals as goal

pub returns : goal.returns
returns g c =
    c.hold.ensures ∙ ap₂ (λ (n ones : ℕ). broken_at 1 (first_not (λ _. (n == ones)) 1)) c.n.ensures
    (c.rank-rows.ensures ∙ ap (count (raised c.level0.result)) c.bits.ensures ∙ same_count c.level0.result _ c.config.result _ c.level0.ensures c.config.ensures)
