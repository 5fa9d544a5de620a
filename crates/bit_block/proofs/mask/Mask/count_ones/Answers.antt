use Rattle.std.proofs.Common.{◌≡◌, length, sym, ◌∙◌, ap, sum_by, arith, rules}
use lib.Count.{ones}
use Rattle.std.proofs.lemmas.List.{take_all}
use Rattle.bit_block.proofs.Ranks.{ones_taken}
use Rattle.bit_block.proofs.mask.Mask.count_ones.Goals as goal

pub returns : goal.returns
returns c =
    let l : length c.args.self.words ≡ 4 = search rules in
    c.ones_in.ensures
    ∙ ap (sum_by ones) (sym (take_all 4 c.args.self.words (omega (arith, l))))
    ∙ ones_taken c.args.self l (λ i. search rules) 4 (omega arith)
