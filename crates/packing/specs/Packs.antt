-- What packing a source gives.
use Rattle.std.specs.Prelude.{◌≡◌, ℕ, List, length, take, drop, Some, slice_index}
use Rattle.bit_block.specs.Raised.{raised}
use Rattle.bit_block.specs.Widths.{w0}
use Rattle.bitset_interface.specs.Source.{Source, Lawful, holds}
use Rattle.packing.specs.declared.Numbers.{Numbers}
use Rattle.packing.specs.Starts0.{start0}
use Rattle.packing.specs.Packed.{held, full, row_count, block_count, packed}
use Rattle.packing.specs.Fills.{k1, kd, all_words}
use Rattle.packing.specs.Meaning.{Sound, up_at}
use Rattle.packing.specs.Views.{viewed}

-- m has the numbers of s
pub record NumbersOf (s : Source) (m : Numbers) : Type 0 where
  pub conf : Some m.config ≡ s.conf
  pub top : (i : ℕ) → raised m.level0 i ≡ full (held s) i
  pub starts : (q : ℕ) → slice_index m.starts q ≡ start0 (full (held s)) (w0 s.conf) q
  pub rows_are : m.n ≡ row_count (held s)
  pub blocks_are : m.d ≡ block_count (held s)

-- `new` is `old` with the packed words of s at its start
pub record WordsOf (s : Source) (old new : List ℕ) : Type 0 where
  pub long : length new ≡ length old
  pub front : take (all_words s) new ≡ packed (k1 s) (kd s) s
  pub rest : drop (all_words s) new ≡ drop (all_words s) old

-- numbers and words of s; together they keep the rules of a set and hold just what s holds, block by block and at every position
pub record PackedAs (s : Source) (m : Numbers) (old new : List ℕ) : Type 0 where
  pub numbers : NumbersOf s m
  pub words : WordsOf s old new
  pub sound : Sound m new
  pub means : (i j t : ℕ) → up_at m new i j t ≡ s.up2 i j t
  pub positions : (p : ℕ) → holds (viewed m new) p ≡ holds s p

-- two sources have the same numbers and the same words
pub record SamePacking (s t : Source) : Type 0 where
  pub top : (i : ℕ) → full (held s) i ≡ full (held t) i
  pub rows : row_count (held s) ≡ row_count (held t)
  pub blocks : block_count (held s) ≡ block_count (held t)
  pub words : packed (k1 s) (kd s) s ≡ packed (k1 t) (kd t) t

-- sources of one configuration that hold the same positions pack alike, whatever their level masks raise
abbrev pub Alike : Source → Type 0
Alike s = (t : Source) → Lawful t → t.conf ≡ s.conf → ((p : ℕ) → holds t p ≡ holds s p) → SamePacking t s
