-- The six rules that what is stored has to keep, in the order in which they are tested, each from place 0 up.
use Rattle.std.specs.Prelude.{ℕ, zero, suc, ◌+◌, ◌*◌, ◌/◌, ◌%◌, Bool, cond, List, [], ◌∷◌, Some, None, Option, ◌==◌, nat_lt, slice_index}
use Rattle.bit_block.specs.Bit.{bit_of}
use Rattle.bit_block.specs.Ranges.{count}
use Rattle.bit_block.specs.Widths.{bits}
use Rattle.bit_block.specs.declared.config.Config.{Config}
use Rattle.bitset_interface.specs.Refusals.{Refusal}
use Rattle.packing.specs.Packed.{before}
use Rattle.packing.specs.Starts0.{start0}
use Rattle.serialization.specs.Layout.{words}
use Rattle.serialization.specs.Stored.{Stored}
use Rattle.serialization.specs.Faults.{is_broken}

-- bit t of words that stand one behind the other
abbrev pub bit_in : List ℕ → ℕ → Bool
bit_in ws t = bit_of (slice_index ws (t / 64)) (t % 64)

-- whether mask i of so many bits raises one
abbrev pub raises_one : List ℕ → ℕ → ℕ → Bool
raises_one ws w i = nat_lt 0 (count (λ t. bit_in ws (i * w + t)) w)

-- a rule: at how many places it is tested, and whether it is kept at each
pub record Rule : Type 0 where
  pub places : ℕ
  pub keeps : ℕ → Bool

-- n counts the raised bits of level 0; each of its eight starts is as defined; no level-1 mask is zero;
-- each level-1 start is as defined; d counts the raised level-1 bits; no block is zero
abbrev pub rules : Config → Stored → List Rule
rules c r =
    record { places = 1; keeps = λ _. (r.n == count (bit_in r.top) (bits c.level0)) }
    ∷ record { places = 8; keeps = λ q. (slice_index r.starts0 q == start0 (bit_in r.top) (bits c.level0) q) }
    ∷ record { places = r.n; keeps = raises_one r.rows (bits c.level1) }
    ∷ record { places = r.n * words c.level1; keeps = λ m. (slice_index r.starts1 m == before r.rows m) }
    ∷ record { places = 1; keeps = λ _. (r.d == before r.rows (r.n * words c.level1)) }
    ∷ record { places = r.d; keeps = raises_one r.blocks (bits c.«data») }
    ∷ []

-- the first of two answers
abbrev pub or_else : {X : Type 0} → Option X → Option X → Option X
or_else (Some x) o = Some x
or_else None o = o

-- the least place below n at which a test fails
unfoldable pub first_not : (ℕ → Bool) → ℕ → Option ℕ
first_not f zero = None
first_not f (suc n) = or_else (first_not f n) (cond (f n) None (Some n))

-- rule k is not kept at this place
abbrev pub broken_at : ℕ → Option ℕ → Option Refusal
broken_at k (Some place) = Some (is_broken k place)
broken_at k None = None

-- the first rule that is not kept, where they are numbered from k up, and its first place
unfoldable pub first_broken : ℕ → List Rule → Option Refusal
first_broken k [] = None
first_broken k (r ∷ rs) = or_else (broken_at k (first_not r.keeps r.places)) (first_broken (k + 1) rs)

unfoldable pub broken : Config → Stored → Option Refusal
broken c r = first_broken 1 (rules c r)
