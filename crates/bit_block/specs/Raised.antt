-- The bits of a mask.
use Rattle.std.specs.Prelude.{ℕ, ◌/◌, ◌%◌, Bool, slice_index}
use Rattle.bit_block.specs.Bit.{bit_of}
use Rattle.bit_block.specs.declared.mask.Mask.{Mask}

-- whether bit t of a mask is raised: bit t mod 64 of word t div 64
unfoldable pub raised : Mask → ℕ → Bool
raised m t = bit_of (slice_index m.words (t / 64)) (t % 64)
