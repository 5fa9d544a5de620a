-- Sets with the same numbers and words hold the same positions.
use Rattle.std.proofs.Common.{◌≡◌, ℕ, ◌+◌, ◌*◌, ◌/◌, ◌%◌, ◌<◌, ◌≤◌, Bool, true, ◌&&◌, ltb, List, get_or, Some, Option, sym, ap, ◌∙◌, ap₂, ⊎_elim, mul-le-mul_right, add-mul, arith}
use mathlib.Core.Path.{fun_ext}
use Rattle.std.proofs.lemmas.Bool.Decides.{nat_tests}
use Rattle.std.proofs.lemmas.Bool.{cases_lt}
use Rattle.bit_block.specs.Bit.{bit_of}
use Rattle.bit_block.specs.Raised.{raised}
use Rattle.bit_block.specs.Widths.{capacity, index0, index1, index_d}
use Rattle.bit_block.specs.declared.config.Config.{Config}
use Rattle.bit_block.proofs.Places.{sized}
use Rattle.packing.specs.declared.Numbers.{Numbers}
use Rattle.packing.specs.Meaning.{k1of, kdof, len_of, word_place, held_at, rank, block_place, up_at, Sound}
use Rattle.packing.specs.Packed.{needed}
use Rattle.packing.proofs.Lookups.{len_fits, place_lt, rank_lt}
use Rattle.vetting.specs.Reloads.{Words64, SamePositions}
use Rattle.vetting.specs.Same.{SameSet}
use Rattle.vetting.proofs.Agree.{k1-same, kd-same, place_same, len_same, block_same}
use Rattle.vetting.proofs.Stores.{held_parts, up_bit, up_wide}

module _ (m : Numbers) (ws : List ℕ) (k : Numbers) (vs : List ℕ) (fm : Words64 ws)
    (sm : Sound m ws) (sk : Sound k vs) (conf : m.config ≡ k.config) (s : SameSet m ws k vs) where
  -- masks have as many words
  e1 : k1of m ≡ k1of k
  e1 = k1-same m k conf

  -- blocks have as many words
  ed : kdof m ≡ kdof k
  ed = kd-same m k conf

  -- the level-1 words are the same
  row_words : (x : ℕ) → x < len_of m → get_or ws x 0 ≡ get_or vs x 0
  row_words x l = s.words x (omega arith)

  -- a raised row is below 256
  below : (i : ℕ) → raised m.level0 i ≡ true → i < 256
  below i up = omega (arith, sm.wide i up, (sized m.config.level0).most)

  -- the place of a level-1 word is below their number
  place_in : (i j : ℕ) → raised m.level0 i ≡ true → j < k1of m * 64 → word_place m i j < len_of m
  place_in i j up l = place_lt m ws sm.rows sm.counts i (below i up) up j l

  -- the same blocks are stored
  held : (i j : ℕ) → held_at m ws i j ≡ held_at k vs i j
  unfolding held_at
  held i j =
      let w = λ (u : raised m.level0 i ≡ true) (l : j < k1of m * 64). row_words (word_place m i j) (place_in i j u l) ∙ ap (λ (y : ℕ). get_or vs y 0) (place_same m k conf s.top i j) in
      grind (arith, nat_tests, w, s.top i, e1)

  module _ (i j : ℕ) (h : held_at m ws i j ≡ true) where
    -- the words of a stored block are in use
    block_in : block_place m ws i j + kdof m ≤ needed (k1of m) (kdof m) m.n m.d
    unfolding block_place
    block_in =
        let p = held_parts m ws i j h in
        let r : rank m ws i j < m.d = rank_lt m ws sm.rows sm.counts i (below i p.0) p.0 j p.1 fm p.2 in
        let k : (rank m ws i j + 1) * kdof m ≤ m.d * kdof m = mul-le-mul_right (kdof m) (omega (arith, r)) in
        omega (arith, k, add-mul (rank m ws i j) 1 (kdof m))

    -- they stand at the same place
    place : block_place m ws i j ≡ block_place k vs i j
    place =
        let p = held_parts m ws i j h in
        block_same m ws k vs conf s.top (len_same m k conf s.rows) (len_fits m ws sm.rows sm.counts) (len_fits k vs sk.rows sk.counts)
        row_words i j (place_in i j p.0 p.1)

    -- a stored block has the same bits
    up_held : (t : ℕ) → t < kdof m * 64 → up_at m ws i j t ≡ up_at k vs i j t
    up_held t l =
        up_bit m ws i j t h l
        ∙ ap (λ (x : ℕ). bit_of x (t % 64))
        (s.words (block_place m ws i j + t / 64) (omega (arith, block_in)) ∙ ap (λ (y : ℕ). get_or vs (y + t / 64) 0) place)
        ∙ sym (up_bit k vs i j t (sym (held i j) ∙ h) (omega (arith, ed)))

  -- with the same bits
  up : (i j t : ℕ) → up_at m ws i j t ≡ up_at k vs i j t
  up i j t =
      ⊎_elim (λ l. let h = λ (e : held_at m ws i j ≡ true). up_held i j e t l in grind (arith, nat_tests, h, held i j))
      (λ l. up_wide m ws i j t l ∙ sym (up_wide k vs i j t (omega (arith, ed))))
      (cases_lt t (kdof m * 64))

  -- so each position is held by both or by neither
  positions : SamePositions m ws k vs
  positions p =
      ap₂ (λ (o : Option Config) (f : ℕ → ℕ → ℕ → Bool). ltb p (capacity o) && f (index0 o p) (index1 o p) (index_d o p))
      (ap Some conf) (fun_ext (λ i. fun_ext (λ j. fun_ext (λ t. up i j t))))

-- sets of one configuration that are the same hold the same positions
pub same_set_same_positions : (m : Numbers) (ws : List ℕ) (k : Numbers) (vs : List ℕ) → Words64 ws → Sound m ws → Sound k vs
    → m.config ≡ k.config → SameSet m ws k vs → SamePositions m ws k vs
same_set_same_positions m ws k vs fm sm sk conf s = positions m ws k vs fm sm sk conf s
