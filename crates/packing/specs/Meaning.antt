-- What the numbers of a packed set and its words mean together.
use Rattle.std.specs.Prelude.{◌≡◌, ℕ, ◌+◌, ◌*◌, ◌/◌, ◌%◌, ◌<◌, ◌≤◌, Bool, true, ◌&&◌, List, length, take, nat_lt, slice_index, refl}
use Rattle.std.proofs.Common.{arith}
use Rattle.bit_block.specs.Bit.{bit_of}
use Rattle.bit_block.specs.Raised.{raised}
use Rattle.bit_block.specs.Ranges.{count}
use Rattle.bit_block.specs.Widths.{bits}
use Rattle.bit_block.specs.declared.config.Width.{Width}
use Rattle.bit_block.specs.declared.config.Width.TheVariants.{W64, W128, W256}
use Rattle.packing.specs.declared.Numbers.{Numbers}
use Rattle.packing.specs.Starts0.{start0}
use Rattle.packing.specs.Packed.{before, four, quarter, needed}

-- how many words a level-1 mask has, and a data block
unfoldable pub k1of : Numbers → ℕ
k1of m = bits m.config.level1 / 64

unfoldable pub kdof : Numbers → ℕ
kdof m = bits m.config.«data» / 64

whole : (x : Width) → (bits x ≡ bits x / 64 * 64) × (bits x / 64 ≤ 4)
whole W64 = (refl, omega arith)
whole W128 = (refl, omega arith)
whole W256 = (refl, omega arith)

pub k1-whole : (m : Numbers) → (bits m.config.level1 ≡ k1of m * 64) × (k1of m ≤ 4)
unfolding k1of
k1-whole m = whole m.config.level1

pub kd-whole : (m : Numbers) → (bits m.config.«data» ≡ kdof m * 64) × (kdof m ≤ 4)
unfolding kdof
kd-whole m = whole m.config.«data»

-- how many level-1 words there are
abbrev pub len_of : Numbers → ℕ
len_of m = m.n * k1of m

-- the place of the level-1 word that has bit (i, j)
abbrev pub word_place : Numbers → ℕ → ℕ → ℕ
word_place m i j = count (raised m.level0) i * k1of m + j / 64

-- whether block (i, j) is stored
unfoldable pub held_at : Numbers → List ℕ → ℕ → ℕ → Bool
held_at m ws i j = raised m.level0 i && (nat_lt j (k1of m * 64) && bit_of (slice_index ws (word_place m i j)) (j % 64))

-- how many blocks are stored before block (i, j): its word's start and the raised bits below it
abbrev pub rank : Numbers → List ℕ → ℕ → ℕ → ℕ
rank m ws i j = before (take (len_of m) ws) (word_place m i j) + count (bit_of (slice_index ws (word_place m i j))) (j % 64)

-- the place of its words
unfoldable pub block_place : Numbers → List ℕ → ℕ → ℕ → ℕ
block_place m ws i j = len_of m + quarter (len_of m) + rank m ws i j * kdof m

-- bit t of the k words from place p on
abbrev pub bit_from : List ℕ → ℕ → ℕ → ℕ → Bool
bit_from ws p k t = nat_lt t (k * 64) && bit_of (slice_index ws (p + t / 64)) (t % 64)

-- bit t of block (i, j)
abbrev pub up_at : Numbers → List ℕ → ℕ → ℕ → ℕ → Bool
up_at m ws i j t = held_at m ws i j && bit_from ws (block_place m ws i j) (kdof m) t

-- the rules that a set keeps, each a plain fact: n counts the raised bits of level 0, none of them past its width
abbrev pub Rows : Numbers → Type 0
Rows m = m.n ≡ count (raised m.level0) 256

abbrev pub Wide : Numbers → Type 0
Wide m = (i : ℕ) → raised m.level0 i ≡ true → i < bits m.config.level0

-- each level-0 start is as defined
abbrev pub Starts0 : Numbers → Type 0
Starts0 m = (q : ℕ) → slice_index m.starts q ≡ start0 (raised m.level0) (bits m.config.level0) q

-- no level-1 mask is zero
abbrev pub RowsHeld : Numbers → List ℕ → Type 0
RowsHeld m ws = (i : ℕ) → raised m.level0 i ≡ true → 0 < count (held_at m ws i) 256

-- each level-1 start is as defined
abbrev pub Starts : Numbers → List ℕ → Type 0
Starts m ws = (q : ℕ) → q < quarter (len_of m) → slice_index ws (len_of m + q) ≡ four (take (len_of m) ws) (4 * q)

-- d counts the raised level-1 bits, and the words are enough
abbrev pub Counts : Numbers → List ℕ → Type 0
Counts m ws = (m.d ≡ before (take (len_of m) ws) (len_of m)) × (needed (k1of m) (kdof m) m.n m.d ≤ length ws)

-- no block is zero
abbrev pub BlocksHeld : Numbers → List ℕ → Type 0
BlocksHeld m ws = (i j : ℕ) → held_at m ws i j ≡ true → 0 < count (up_at m ws i j) 256

-- all of them
pub record Sound (m : Numbers) (ws : List ℕ) : Type 0 where
  pub rows : Rows m
  pub wide : Wide m
  pub starts0 : Starts0 m
  pub rows_held : RowsHeld m ws
  pub starts : Starts m ws
  pub counts : Counts m ws
  pub blocks_held : BlocksHeld m ws
