-- The refusals of a draft, by number.
use Rattle.std.specs.Prelude.{[], Some, None, Ok, Err, Option, Result}
use Rattle.bitset_interface.specs.Refusals.{Refusal}
use Rattle.draft.specs.declared.DraftError.{DraftError}
use Rattle.draft.specs.declared.DraftError.TheVariants.{BadRange, NoWords}

abbrev pub bad_range : Refusal
bad_range = record { number = 8; values = [] }

abbrev pub no_words : Refusal
no_words = record { number = 9; values = [] }

abbrev pub draft_refusal : DraftError → Refusal
draft_refusal BadRange = bad_range
draft_refusal NoWords = no_words

-- why an answer refuses, or None where it accepts
abbrev pub refusal : {A : Type 0} → Result A DraftError → Option Refusal
refusal (Ok x) = None
refusal (Err e) = Some (draft_refusal e)
