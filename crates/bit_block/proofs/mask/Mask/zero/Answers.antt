use Rattle.std.proofs.Common.{◌/◌, [], ◌∷◌, refl}
use Rattle.bit_block.proofs.Masks.{raised-zero, zeros}
use Rattle.bit_block.proofs.mask.Mask.zero.Goals as goal

pub returns : goal.returns
returns c t = raised-zero (record { words = 0 ∷ 0 ∷ 0 ∷ 0 ∷ [] }) t (zeros (0 ∷ 0 ∷ 0 ∷ 0 ∷ []) refl refl refl refl refl (t / 64))
