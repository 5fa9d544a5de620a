-- Two sets with the same numbers and the same words.
use Rattle.std.specs.Prelude.{◌≡◌, ℕ, ◌<◌, List, slice_index}
use Rattle.bit_block.specs.Raised.{raised}
use Rattle.packing.specs.declared.Numbers.{Numbers}
use Rattle.packing.specs.Meaning.{k1of, kdof}
use Rattle.packing.specs.Packed.{needed}

-- the level-0 masks raise the same bits; the counts, the level-0 starts and the words that are in use are the same
pub record SameSet (m : Numbers) (ws : List ℕ) (k : Numbers) (vs : List ℕ) : Type 0 where
  pub top : (i : ℕ) → raised m.level0 i ≡ raised k.level0 i
  pub rows : m.n ≡ k.n
  pub blocks : m.d ≡ k.d
  pub starts : (q : ℕ) → slice_index m.starts q ≡ slice_index k.starts q
  pub words : (x : ℕ) → x < needed (k1of m) (kdof m) m.n m.d → slice_index ws x ≡ slice_index vs x
