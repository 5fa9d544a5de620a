-- Sets of one configuration that hold the same positions have the same numbers and words.
use Rattle.std.proofs.Common.{◌≡◌, ℕ, ◌+◌, ◌-◌, ◌*◌, ◌/◌, ◌%◌, ◌<◌, ◌≤◌, Bool, true, List, length, get_or, take, Some, sym, refl, ap, ◌∙◌, subst, ap₂, arith}
use mathlib.Core.Path.{fun_ext}
use Rattle.std.proofs.lemmas.Nat.{div_below, mod_below, div-add-mod'}
use Rattle.std.proofs.lemmas.Bool.Decides.{nat_tests}
use Rattle.bit_block.specs.Bit.{bit_of}
use Rattle.bit_block.specs.Raised.{raised}
use Rattle.bit_block.specs.Ranges.{count}
use Rattle.bit_block.specs.Widths.{bits}
use Rattle.bit_block.specs.declared.config.Config.{Config}
use Rattle.bitset_interface.specs.Source.{Source, Lawful}
use Rattle.bitset_interface.proofs.Positions.{same_bits}
use Rattle.packing.specs.declared.Numbers.{Numbers}
use Rattle.packing.specs.Meaning.{k1of, kdof, len_of, held_at, block_place, up_at, Sound}
use Rattle.packing.specs.Packed.{before, four, quarter, needed}
use Rattle.packing.specs.Starts0.{start0}
use Rattle.packing.specs.Views.{viewed, viewed_lawful}
use Rattle.packing.proofs.Lookups.{len_fits, place_lt}
use Rattle.packing.proofs.Selects.{same_word}
use Rattle.vetting.specs.Reloads.{Words64, SamePositions}
use Rattle.vetting.specs.Same.{SameSet}
use Rattle.vetting.proofs.Agree.{k1-same, kd-same, place_same, len_same, rows_same, block_same}
use Rattle.vetting.proofs.Chosen.{kd_pos, WordAt, word_at, held_there, BlockAt, block_at}
use Rattle.vetting.proofs.Stores.{up_bit}

-- Bools that imply each other are equal
each_way : (p q : Bool) → (p ≡ true → q ≡ true) → (q ≡ true → p ≡ true) → p ≡ q
each_way p q f g = grind (arith, nat_tests)

-- trusted sources with the same data bits raise the same upper bits
module _ (s t : Source) (ls : Lawful s) (lt : Lawful t) (ts : s.trust ≡ true) (tt' : t.trust ≡ true)
    (same : (i j k : ℕ) → s.up2 i j k ≡ t.up2 i j k) where
  -- on level 1, since a raised bit has a data bit below it
  same_up1 : (i j : ℕ) → s.up1 i j ≡ t.up1 i j
  same_up1 i j =
      each_way (s.up1 i j) (t.up1 i j)
      (λ u. let f = ls.full1 i j ts u in lt.under2 i j f.0 (sym (same i j f.0) ∙ f.1))
      (λ u. let f = lt.full1 i j tt' u in ls.under2 i j f.0 (same i j f.0 ∙ f.1))

  -- on level 0, since a raised bit has a level-1 bit below it
  same_up0 : (i : ℕ) → s.up0 i ≡ t.up0 i
  same_up0 i =
      each_way (s.up0 i) (t.up0 i)
      (λ u. let f = ls.full0 i ts u in lt.under1 i f.0 (sym (same_up1 i f.0) ∙ f.1))
      (λ u. let f = lt.full0 i tt' u in ls.under1 i f.0 (same_up1 i f.0 ∙ f.1))

-- a set is a lawful source
lawful : (m : Numbers) (ws : List ℕ) → Sound m ws → Lawful (viewed m ws)
lawful m ws sound = viewed_lawful m ws sound.wide sound.rows_held sound.blocks_held

module _ (m : Numbers) (ws : List ℕ) (k : Numbers) (vs : List ℕ) (fm : Words64 ws) (fk : Words64 vs)
    (sm : Sound m ws) (sk : Sound k vs) (conf : m.config ≡ k.config) (same : SamePositions m ws k vs) where
  -- the same data bits
  ups : (i j t : ℕ) → up_at m ws i j t ≡ up_at k vs i j t
  ups = same_bits (viewed m ws) (viewed k vs) (lawful m ws sm) (lawful k vs sk) (ap Some conf) same

  -- the same stored blocks
  helds : (i j : ℕ) → held_at m ws i j ≡ held_at k vs i j
  helds = same_up1 (viewed m ws) (viewed k vs) (lawful m ws sm) (lawful k vs sk) refl refl ups

  -- the same level-0 bits
  tops : (i : ℕ) → raised m.level0 i ≡ raised k.level0 i
  tops = same_up0 (viewed m ws) (viewed k vs) (lawful m ws sm) (lawful k vs sk) refl refl ups

  -- as many rows
  rows : m.n ≡ k.n
  rows = sm.rows ∙ ap (λ (f : ℕ → Bool). count f 256) (fun_ext tops) ∙ sym sk.rows

  -- as many level-1 words
  len : len_of m ≡ len_of k
  len = len_same m k conf rows

  -- a bit of a level-1 word has the same row and column in both
  moved : (x t : ℕ) → WordAt m x t → WordAt k x t
  moved x t a = record {
    row = a.row;
    column = a.column;
    below = a.below;
    up = sym (tops a.row) ∙ a.up;
    wide = subst (λ (c : ℕ). a.column < c * 64) (k1-same m k conf) a.wide;
    place = sym (place_same m k conf tops a.row a.column) ∙ a.place;
    bit = a.bit;
  }

  -- the level-1 words are the same, since their bits are
  row_words : (x : ℕ) → x < len_of m → get_or ws x 0 ≡ get_or vs x 0
  unfolding moved
  row_words x l =
      same_word (get_or ws x 0) (get_or vs x 0) (fm x) (fk x)
      (λ t h.
      let a : WordAt m x t = word_at m sm.rows x t l h in
      sym (held_there m ws x t a) ∙ helds a.row a.column ∙ held_there k vs x t (moved x t a))

  -- the level-1 words of the first are all there
  fitm : len_of m ≤ length ws
  fitm = len_fits m ws sm.rows sm.counts

  -- and those of the second
  fitk : len_of k ≤ length vs
  fitk = len_fits k vs sk.rows sk.counts

  -- the level-1 words as lists
  lists : take (len_of m) ws ≡ take (len_of k) vs
  lists = rows_same m ws k vs conf tops len fitm fitk row_words

  -- as many blocks
  blocks : m.d ≡ k.d
  blocks = sm.counts.0 ∙ ap₂ before lists len ∙ sym sk.counts.0

  -- the words of the starts are the same, since the starts are
  start_words_lem : (q : ℕ) → q < quarter (len_of m) → get_or ws (len_of m + q) 0 ≡ get_or vs (len_of m + q) 0
  start_words_lem q l =
      sm.starts q l ∙ ap (λ (xs : List ℕ). four xs (4 * q)) lists
      ∙ sym (sk.starts q (subst (λ (n : ℕ). q < quarter n) len l)) ∙ ap (λ (n : ℕ). get_or vs (n + q) 0) (sym len)

  -- the place of the first data word
  abbrev Q : ℕ
  Q = len_of m + quarter (len_of m)

  -- bit t of word y of the data, by the block of rank y div kd
  module _ (y t : ℕ) (small : t < 64) (a : BlockAt m ws (y / kdof m)) where
    -- the bit's place in its block
    abbrev T : ℕ
    T = y % kdof m * 64 + t

    -- the word's place in its block
    low : y % kdof m < kdof m
    low = mod_below y (kdof m) (kd_pos m)

    -- the word stands in the block of that rank
    at : block_place m ws a.row a.column + T / 64 ≡ Q + y
    unfolding block_place
    at =
        let d : T / 64 ≡ y % kdof m = omega arith in
        omega (arith, d, ap (λ (z : ℕ). z * kdof m) a.ranked, div-add-mod' y (kdof m))

    -- and the bit in that word
    bit : T % 64 ≡ t
    bit = omega arith

    -- the same in the other set
    at' : block_place k vs a.row a.column + T / 64 ≡ Q + y
    at' =
        ap (λ (z : ℕ). z + T / 64)
        (sym (block_same m ws k vs conf tops len fitm fitk row_words a.row a.column
        (place_lt m ws sm.rows sm.counts a.row a.below a.up a.column a.wide)))
        ∙ at

    -- so the bit is the same
    data_bit : bit_of (get_or ws (Q + y) 0) t ≡ bit_of (get_or vs (Q + y) 0) t
    data_bit =
        sym (up_bit m ws a.row a.column T a.is_held (omega (arith, low)) ∙ ap₂ (λ (x u : ℕ). bit_of (get_or ws x 0) u) at bit)
        ∙ ups a.row a.column T
        ∙ up_bit k vs a.row a.column T (sym (helds a.row a.column) ∙ a.is_held) (omega (arith, low, kd-same m k conf))
        ∙ ap₂ (λ (x u : ℕ). bit_of (get_or vs x 0) u) at' bit

  -- the data words are the same, since their bits are
  data_words_lem : (y : ℕ) → y < m.d * kdof m → get_or ws (Q + y) 0 ≡ get_or vs (Q + y) 0
  data_words_lem y l =
      same_word (get_or ws (Q + y) 0) (get_or vs (Q + y) 0) (fm (Q + y)) (fk (Q + y))
      (λ t h. data_bit y t h (block_at m ws fm sm.rows sm.counts (y / kdof m) (div_below y (kdof m) m.d (kd_pos m) l)))

  -- level-1 words, starts, data
  all_words : (x : ℕ) → x < needed (k1of m) (kdof m) m.n m.d → get_or ws x 0 ≡ get_or vs x 0
  all_words x l = let a = row_words x in let b = start_words_lem (x - len_of m) in let d = data_words_lem (x - Q) in grind (arith, nat_tests, a, b, d)

  -- the level-0 starts are the same
  starts : (q : ℕ) → get_or m.starts q 0 ≡ get_or k.starts q 0
  starts q =
      sm.starts0 q
      ∙ ap₂ (λ (f : ℕ → Bool) (c : Config). start0 f (bits c.level0) q) (fun_ext tops) conf
      ∙ sym (sk.starts0 q)

  -- the same numbers and words
  same_set : SameSet m ws k vs
  same_set = record { top = tops; rows = rows; blocks = blocks; starts = starts; words = all_words }

-- sets of one configuration that hold the same positions are the same
pub canonical : (m : Numbers) (ws : List ℕ) (k : Numbers) (vs : List ℕ) → Words64 ws → Words64 vs → Sound m ws → Sound k vs
    → m.config ≡ k.config → SamePositions m ws k vs → SameSet m ws k vs
canonical m ws k vs fm fk sm sk conf same = same_set m ws k vs fm fk sm sk conf same
