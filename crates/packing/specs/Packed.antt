-- The packed form of a source. No source raises a bit at or past 256 on any level.
use Rattle.std.specs.Prelude.{ℕ, ◌+◌, ◌*◌, ◌/◌, Bool, cond, List, [], ◌∷◌, ◌++◌, length, take, sum_by, count_ones, nat_lt}
use Rattle.bitset_interface.specs.Source.{Source}
use Rattle.bit_block.specs.Ranges.{total, count}
use Rattle.packing.specs.Gathered.{gather, words_of}
use Rattle.packing.specs.StartWords.{four_of}

-- whether block (i, j) holds a bit
unfoldable pub held : Source → ℕ → ℕ → Bool
held s i j = nat_lt 0 (count (s.up2 i j) 256)

-- how many blocks row i holds, where h says which blocks are held; and whether it holds one
unfoldable pub blocks : (ℕ → ℕ → Bool) → ℕ → ℕ
blocks h i = count (h i) 256

abbrev pub full : (ℕ → ℕ → Bool) → ℕ → Bool
full h i = nat_lt 0 (blocks h i)

-- how many rows and how many blocks are held
abbrev pub row_count : (ℕ → ℕ → Bool) → ℕ
row_count h = count (full h) 256

abbrev pub block_count : (ℕ → ℕ → Bool) → ℕ
block_count h = total (blocks h) 256

-- the words, k to a mask, of the masks below n that f chooses, where g i t says whether bit t of mask i is raised
abbrev pub chosen : ℕ → (ℕ → Bool) → (ℕ → ℕ → Bool) → ℕ → List ℕ
chosen k f g n = gather (λ i. cond (f i) (words_of k (g i)) []) n

-- the level-1 words, k to a row: of the rows below n, and all
abbrev pub level1_to : ℕ → (ℕ → ℕ → Bool) → ℕ → List ℕ
level1_to k h n = chosen k (full h) h n

abbrev pub level1 : ℕ → (ℕ → ℕ → Bool) → List ℕ
level1 k h = level1_to k h 256

-- the data words, k to a block: of row i, its blocks below n, and all; of the rows below n, and all
abbrev pub data_row_to : ℕ → Source → ℕ → ℕ → List ℕ
data_row_to k s i n = chosen k (held s i) (s.up2 i) n

abbrev pub data_row : ℕ → Source → ℕ → List ℕ
data_row k s i = data_row_to k s i 256

abbrev pub data_to : ℕ → Source → ℕ → List ℕ
data_to k s n = gather (data_row k s) n

abbrev pub data_words : ℕ → Source → List ℕ
data_words k s = data_to k s 256

-- the start of word m: how many ones stand in the words before it; 0 past the last
unfoldable pub before : List ℕ → ℕ → ℕ
before xs m = sum_by count_ones (take m xs)

unfoldable pub start : List ℕ → ℕ → ℕ
start xs m = cond (nat_lt m (length xs)) (before xs m) 0

-- four starts to a word, the first in the most significant bits
unfoldable pub four : List ℕ → ℕ → ℕ
four xs m = four_of (start xs m ∷ start xs (m + 1) ∷ start xs (m + 2) ∷ start xs (m + 3) ∷ [])

abbrev pub quarter : ℕ → ℕ
quarter n = (n + 3) / 4

abbrev pub start_words_to : List ℕ → ℕ → List ℕ
start_words_to xs n = gather (λ q. four xs (4 * q) ∷ []) n

abbrev pub start_words : List ℕ → List ℕ
start_words xs = start_words_to xs (quarter (length xs))

-- all the words of a source, k1 to a row and kd to a block
abbrev pub packed : ℕ → ℕ → Source → List ℕ
packed k1 kd s = level1 k1 (held s) ++ start_words (level1 k1 (held s)) ++ data_words kd s

abbrev pub needed : ℕ → ℕ → ℕ → ℕ → ℕ
needed k1 kd n d = n * k1 + quarter (n * k1) + d * kd
