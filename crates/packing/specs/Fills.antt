-- How many words the packing of a source takes.
use Rattle.std.specs.Prelude.{ℕ, ◌/◌}
use Rattle.bit_block.specs.Widths.{w1, wd}
use Rattle.bitset_interface.specs.Source.{Source}
use Rattle.packing.specs.Packed.{held, row_count, block_count, needed}

-- words of a level-1 mask, of a block, and of all
abbrev pub k1 : Source → ℕ
k1 s = w1 s.conf / 64

abbrev pub kd : Source → ℕ
kd s = wd s.conf / 64

abbrev pub all_words : Source → ℕ
all_words s = needed (k1 s) (kd s) (row_count (held s)) (block_count (held s))
