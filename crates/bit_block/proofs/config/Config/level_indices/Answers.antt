use Rattle.bit_block.proofs.Places.{shift0, shift1, shift_d}
use Rattle.bit_block.proofs.config.Config.level_indices.Goals as goal

pub returns : goal.returns
returns c =
    let l = c.args.self.level1 in
    let d = c.args.self.«data» in
    let x = c.exponent-level1.result in
    let y = c.exponent-data.result in
    record {
      level0 = shift0 l d x y c.args.p c.exponent-level1.ensures c.exponent-data.ensures;
      level1 = shift1 l d x y c.args.p c.exponent-level1.ensures c.exponent-data.ensures;
      bit = shift_d l d x y c.args.p c.exponent-level1.ensures c.exponent-data.ensures;
    }
