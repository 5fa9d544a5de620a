-- The refusals of a filling, by number.
use Rattle.std.specs.Prelude.{ℕ, cond, [], is_some, Some, None, Ok, Err, Option, Result, nat_le}
use Rattle.bitset_interface.specs.Source.{Source}
use Rattle.bitset_interface.specs.Refusals.{Refusal, unless}
use Rattle.packing.specs.Fills.{all_words}
use Rattle.immutable_bitset.specs.declared.error.FillError.{FillError}
use Rattle.immutable_bitset.specs.declared.error.FillError.TheVariants.{Void, NoMemory, Access}
use Rattle.serialization.specs.Faults.{access_refusal}
pub use Rattle.vetting.specs.Outcomes.{no_memory}

abbrev pub is_void : Refusal
is_void = record { number = 6; values = [] }

abbrev pub fill_refusal : FillError → Refusal
fill_refusal Void = is_void
fill_refusal (NoMemory w) = no_memory w
fill_refusal (Access e) = access_refusal e

-- why a filling refuses, or None where it accepts
abbrev pub refusal : {A : Type 0} → Result A FillError → Option Refusal
refusal (Ok x) = None
refusal (Err e) = Some (fill_refusal e)

-- why a source is not packed into so many words: it is void, or they are too few
abbrev pub unpacked : Source → ℕ → Option Refusal
unpacked s n = cond (is_some s.conf) (unless (nat_le (all_words s) n) (no_memory (all_words s))) (Some is_void)
