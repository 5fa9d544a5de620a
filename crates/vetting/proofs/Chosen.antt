-- The row and the column that a bit of a level-1 word has, and those of the block of a given rank.
use Rattle.std.proofs.Common.{◌≡◌, ℕ, ◌+◌, ◌*◌, ◌/◌, ◌%◌, ◌<◌, ◌≤◌, true, List, length, get_or, take, sym, ap, ◌∙◌, ap₂, arith}
use Rattle.std.proofs.lemmas.Nat.{div_below, mod_below, div-add-mod'}
use Rattle.std.proofs.lemmas.List.{length-take-le, get_or-take}
use Rattle.bit_block.specs.Bit.{bit_of}
use Rattle.bit_block.specs.Raised.{raised}
use Rattle.bit_block.specs.Ranges.{count}
use Rattle.bit_block.proofs.Places.{sized}
use Rattle.packing.specs.declared.Numbers.{Numbers}
use Rattle.packing.specs.Meaning.{k1of, kdof, k1-whole, kd-whole, len_of, word_place, held_at, rank, Rows, Counts}
use Rattle.packing.specs.Packed.{before}
use Rattle.packing.proofs.Lookups.{len_fits}
use Rattle.packing.proofs.Selects.{select, SelectedBit, select_bit}
use Rattle.packing.proofs.Starts.{fits_take}
use Rattle.vetting.specs.Reloads.{Words64}
use Rattle.vetting.proofs.Stores.{held_bit}

-- a mask has a word
pub k1_pos : (m : Numbers) → 0 < k1of m
k1_pos m = omega (arith, (k1-whole m).0, (sized m.config.level1).least)

-- a block has a word
pub kd_pos : (m : Numbers) → 0 < kdof m
kd_pos m = omega (arith, (kd-whole m).0, (sized m.config.«data»).least)

-- the row and the column of bit t of level-1 word x
pub record WordAt (m : Numbers) (x t : ℕ) : Type 0 where
  pub row : ℕ
  pub column : ℕ
  pub below : row < 256
  pub up : raised m.level0 row ≡ true
  pub wide : column < k1of m * 64
  pub place : word_place m row column ≡ x
  pub bit : column % 64 ≡ t

-- each bit of each level-1 word has them
pub word_at : (m : Numbers) → Rows m → (x t : ℕ) → x < len_of m → t < 64 → WordAt m x t
word_at m rows x t lx lt =
    let k : ℕ = k1of m in
    let r : ℕ = x / k in
    let hr : r < m.n = div_below x k m.n (k1_pos m) lx in
    let s = select (raised m.level0) 256 r (omega (arith, rows, hr)) in
    let y : ℕ = x % k in
    let hy : y < k = mod_below x k (k1_pos m) in
    let d : (y * 64 + t) / 64 ≡ y = omega arith in
    record {
      row = s.place;
      column = y * 64 + t;
      below = s.below;
      up = s.passes;
      wide = omega arith;
      place = omega (arith, ap (λ (z : ℕ). z * k) s.ranked, d, div-add-mod' x k);
      bit = omega arith;
    }

-- what is held there is the bit
pub held_there : (m : Numbers) (ws : List ℕ) (x t : ℕ) (a : WordAt m x t) → held_at m ws a.row a.column ≡ bit_of (get_or ws x 0) t
held_there m ws x t a = held_bit m ws a.row a.column a.up a.wide ∙ ap₂ (λ (y u : ℕ). bit_of (get_or ws y 0) u) a.place a.bit

-- the row and the column of the stored block of rank b
pub record BlockAt (m : Numbers) (ws : List ℕ) (b : ℕ) : Type 0 where
  pub row : ℕ
  pub column : ℕ
  pub below : row < 256
  pub up : raised m.level0 row ≡ true
  pub wide : column < k1of m * 64
  pub is_held : held_at m ws row column ≡ true
  pub ranked : rank m ws row column ≡ b

-- they are those of a raised bit of the level-1 words with b raised bits before it
block_of : (m : Numbers) (ws : List ℕ) (b : ℕ) (s : SelectedBit (take (len_of m) ws) (len_of m) b) → WordAt m s.word s.bit → BlockAt m ws b
block_of m ws b s a =
    let e : get_or (take (len_of m) ws) s.word 0 ≡ get_or ws s.word 0 = get_or-take (len_of m) ws s.word 0 s.inside in
    record {
      row = a.row;
      column = a.column;
      below = a.below;
      up = a.up;
      wide = a.wide;
      is_held = held_there m ws s.word s.bit a ∙ ap (λ (x : ℕ). bit_of x s.bit) (sym e) ∙ s.up;
      ranked =
          ap₂ (λ (y u : ℕ). before (take (len_of m) ws) y + count (bit_of (get_or ws y 0)) u) a.place a.bit
          ∙ ap (λ (x : ℕ). before (take (len_of m) ws) s.word + count (bit_of x) s.bit) (sym e) ∙ s.ranked;
    }

-- each rank below d has them
pub block_at : (m : Numbers) (ws : List ℕ) → Words64 ws → Rows m → Counts m ws → (b : ℕ) → b < m.d → BlockAt m ws b
block_at m ws fits rows counts b l =
    let fit : len_of m ≤ length ws = len_fits m ws rows counts in
    let s : SelectedBit (take (len_of m) ws) (len_of m) b =
    select_bit (take (len_of m) ws) (fits_take ws (len_of m) fits fit) (len_of m) b (omega (arith, length-take-le (len_of m) ws fit)) (omega (arith, counts.0)) in
    block_of m ws b s (word_at m rows s.word s.bit s.inside s.small)
