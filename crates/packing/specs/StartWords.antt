-- Four starts to a word, the first in the most significant bits.
use Rattle.std.specs.Prelude.{ℕ, ◌+◌, ◌-◌, ◌*◌, ◌/◌, ◌%◌, ◌^◌, List, slice_index}

-- the word of four starts
abbrev pub four_of : List ℕ → ℕ
four_of xs = ((slice_index xs 0 * 65536 + slice_index xs 1) * 65536 + slice_index xs 2) * 65536 + slice_index xs 3

-- start m, from the word that has it
abbrev pub field_in : ℕ → ℕ → ℕ
field_in word m = word / 2 ^ (48 - 16 * (m % 4)) % 65536
