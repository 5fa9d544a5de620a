-- Sets with the same level 0 and the same level-1 words have their words at the same places.
use Rattle.std.proofs.Common.{◌≡◌, ℕ, ◌+◌, ◌*◌, ◌/◌, ◌%◌, ◌<◌, ◌≤◌, Bool, List, length, get_or, take, sym, ap, ◌∙◌, ap₂, arith}
use mathlib.Core.Path.{fun_ext}
use Rattle.std.proofs.lemmas.List.{length-take-le, get_or-take, ext_get_or}
use Rattle.bit_block.specs.Bit.{bit_of}
use Rattle.bit_block.specs.Raised.{raised}
use Rattle.bit_block.specs.Ranges.{count}
use Rattle.bit_block.specs.Widths.{bits}
use Rattle.bit_block.specs.declared.config.Config.{Config}
use Rattle.packing.specs.declared.Numbers.{Numbers}
use Rattle.packing.specs.Meaning.{k1of, kdof, len_of, word_place, rank, block_place}
use Rattle.packing.specs.Packed.{before, quarter}

-- masks of one configuration have as many words
pub k1-same : (m k : Numbers) → m.config ≡ k.config → k1of m ≡ k1of k
unfolding k1of
k1-same m k e = ap (λ (c : Config). bits c.level1 / 64) e

-- blocks of one configuration have as many words
pub kd-same : (m k : Numbers) → m.config ≡ k.config → kdof m ≡ kdof k
unfolding kdof
kd-same m k e = ap (λ (c : Config). bits c.«data» / 64) e

module _ (m k : Numbers) (conf : m.config ≡ k.config) where
  -- level-1 words stand at the same places
  pub place_same : ((i : ℕ) → raised m.level0 i ≡ raised k.level0 i) → (i j : ℕ) → word_place m i j ≡ word_place k i j
  place_same top i j = ap₂ (λ (f : ℕ → Bool) (c : ℕ). count f i * c + j / 64) (fun_ext top) (k1-same m k conf)

  -- there are as many of them
  pub len_same : m.n ≡ k.n → len_of m ≡ len_of k
  len_same rows = ap₂ ◌*◌ rows (k1-same m k conf)

module _ (m : Numbers) (ws : List ℕ) (k : Numbers) (vs : List ℕ) (conf : m.config ≡ k.config)
    (top : (i : ℕ) → raised m.level0 i ≡ raised k.level0 i) (len : len_of m ≡ len_of k)
    (fm : len_of m ≤ length ws) (fk : len_of k ≤ length vs) (words : (x : ℕ) → x < len_of m → get_or ws x 0 ≡ get_or vs x 0) where
  -- the level-1 words as lists
  pub rows_same : take (len_of m) ws ≡ take (len_of k) vs
  rows_same =
      let a : length (take (len_of m) ws) ≡ len_of m = length-take-le (len_of m) ws fm in
      let b : length (take (len_of k) vs) ≡ len_of k = length-take-le (len_of k) vs fk in
      ext_get_or 0 (take (len_of m) ws) (take (len_of k) vs) (omega arith)
      (λ x l.
      let h : x < len_of m = omega arith in
      get_or-take (len_of m) ws x 0 h ∙ words x h ∙ sym (get_or-take (len_of k) vs x 0 (omega arith)))

  -- how many blocks are stored before one
  pub rank_same : (i j : ℕ) → word_place m i j < len_of m → rank m ws i j ≡ rank k vs i j
  rank_same i j l =
      ap₂ ◌+◌ (ap₂ before rows_same (place_same m k conf top i j))
      (ap (λ (x : ℕ). count (bit_of x) (j % 64)) (words (word_place m i j) l ∙ ap (λ (y : ℕ). get_or vs y 0) (place_same m k conf top i j)))

  -- where its words stand
  pub block_same : (i j : ℕ) → word_place m i j < len_of m → block_place m ws i j ≡ block_place k vs i j
  unfolding block_place
  block_same i j l =
      ap₂ ◌+◌ (ap (λ (n : ℕ). n + quarter n) len) (ap₂ ◌*◌ (rank_same i j l) (kd-same m k conf))
