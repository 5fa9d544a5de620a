-- What an image stores: its numbers, and the words and starts of each level.
use Rattle.std.specs.Prelude.{ℕ, ◌+◌, ◌*◌, ◌/◌, List, [], ◌∷◌, take, drop, slice_index}
use Rattle.bit_block.specs.Widths.{bits}
use Rattle.packing.specs.Gathered.{gather}
use Rattle.packing.specs.StartWords.{field_in}
use Rattle.packing.specs.Packed.{quarter}
use Rattle.packing.specs.Meaning.{kdof, len_of}
use Rattle.packing.specs.declared.Numbers.{Numbers}

pub record Stored : Type 0 where
  pub n : ℕ
  pub d : ℕ
  pub top : List ℕ
  pub starts0 : List ℕ
  pub rows : List ℕ
  pub starts1 : List ℕ
  pub blocks : List ℕ

-- start m of those that stand four to a word, the first in the most significant bits
abbrev pub field_at : List ℕ → ℕ → ℕ
field_at ws m = field_in (slice_index ws (m / 4)) m

-- what a set of these numbers and words stores
abbrev pub stored : Numbers → List ℕ → Stored
stored m ws = record {
  n = m.n;
  d = m.d;
  top = take (bits m.config.level0 / 64) m.level0.words;
  starts0 = m.starts;
  rows = take (len_of m) ws;
  starts1 = gather (λ q. field_at (drop (len_of m) ws) q ∷ []) (len_of m);
  blocks = take (m.d * kdof m) (drop (len_of m + quarter (len_of m)) ws);
}
