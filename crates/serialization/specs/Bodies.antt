-- What the fields behind level 0 give as words.
use Rattle.std.specs.Prelude.{◌≡◌, ℕ, ◌+◌, ◌*◌, ◌/◌, Bool, cond, List, [], ◌∷◌, ◌++◌, length, drop, nat_le}
use Rattle.bit_block.specs.declared.config.Width.{Width}
use Rattle.packing.specs.Gathered.{gather}
use Rattle.packing.specs.Meaning.{k1of, kdof, len_of}
use Rattle.packing.specs.Packed.{quarter, needed}
use Rattle.packing.specs.StartWords.{four_of}
use Rattle.packing.specs.Wrote.{Wrote}
use Rattle.packing.specs.declared.Numbers.{Numbers}
use Rattle.reader.specs.Fields.{Run, one, many}
use Rattle.reader.specs.LittleEndian.{numbers}
use Rattle.serialization.specs.Layout.{size, words, padding, starts1_end, rest_fields}

-- how many whole masks there is room for in so many words
abbrev pub masks_in : Width → ℕ → ℕ
masks_in w n = n / words w

-- the masks that there is room for are read from the start of the words on, and the words behind them are as they were
abbrev pub MasksRead : Width → List ℕ → List ℕ → List ℕ → Type 0
MasksRead w xs old new = Wrote old new 0 (numbers 8 (masks_in w (length old) * words w) xs) (masks_in w (length old) * words w)

-- n words of so many starts, four to a word; a field without a start is 0
abbrev pub start_words_in : ℕ → List ℕ → ℕ → List ℕ
start_words_in count xs n = gather (λ q. four_of (drop (4 * q) (numbers 2 count xs)) ∷ []) n

-- the words of a set of these numbers
abbrev pub needed_of : Numbers → ℕ
needed_of m = needed (k1of m) (kdof m) m.n m.d

-- where the level-1 starts stand, behind the start of the level-1 masks, and how long they are
abbrev pub starts_behind : Numbers → ℕ
starts_behind m = m.n * size m.config.level1

abbrev pub blocks_behind : Numbers → ℕ
blocks_behind m = starts_behind m + m.n * words m.config.level1 * 2 + padding (size m.config.«data») (starts1_end m.config m.n)

-- the fields of level 1, and of the blocks
abbrev pub level1_fields : Numbers → List Run
level1_fields m = many m.n (size m.config.level1) ∷ many (m.n * words m.config.level1) 2 ∷ []

abbrev pub block_fields : Numbers → List Run
block_fields m = one (padding (size m.config.«data») (starts1_end m.config m.n)) ∷ many m.d (size m.config.«data») ∷ []

-- the level-1 starts
abbrev pub starts_in : Numbers → List ℕ → List ℕ
starts_in m xs = numbers 2 (len_of m) (drop (starts_behind m) xs)

-- the words of level 1 from bytes that begin with it, and those of the blocks from bytes that begin with their padding
abbrev pub level1_in : Numbers → List ℕ → List ℕ
level1_in m xs = numbers 8 (len_of m) xs ++ start_words_in (len_of m) (drop (starts_behind m) xs) (quarter (len_of m))

abbrev pub blocks_in : Numbers → List ℕ → List ℕ
blocks_in m xs = numbers 8 (m.d * kdof m) xs

-- whether so many words suffice
abbrev pub suffice : Numbers → ℕ → Bool
suffice m lent = nat_le (needed_of m) lent

-- the fields that are read behind level 0: none where the words do not suffice
abbrev pub body_fields : Numbers → ℕ → List Run
body_fields m lent = cond (suffice m lent) (rest_fields m.config m.n m.d) []

-- where they suffice, all of the set's words are written from the first on; else all is as it was
abbrev pub BodyRead : Numbers → List ℕ → List ℕ → List ℕ → Type 0
BodyRead m xs old new = cond (suffice m (length old)) (Wrote old new 0 (level1_in m xs ++ blocks_in m (drop (blocks_behind m) xs)) (needed_of m)) (new ≡ old)
