-- Why bytes are not taken as an image, each case by its number and the values that it carries.
use Rattle.std.specs.Prelude.{ℕ, List, [], ◌∷◌, Some, None, Ok, Err, Option, Result}
use Rattle.bitset_interface.specs.Refusals.{Refusal}
use Rattle.reader.specs.declared.fault.ReadFault.{ReadFault}
use Rattle.reader.specs.declared.fault.ReadFault.TheVariants.{Short, Device}
use Rattle.serialization.specs.declared.error.Rule.{Rule}
use Rattle.serialization.specs.declared.error.Rule.TheVariants.{Level1Count, Level0Start, Level1Mask, Level1Start, DataCount, DataBlock}
use Rattle.serialization.specs.declared.error.AccessError.{AccessError}
use Rattle.serialization.specs.declared.error.AccessError.TheVariants.{UnexpectedEof, FormatMismatch, IOError, Broken}

abbrev pub unexpected_eof : Refusal
unexpected_eof = record { number = 1; values = [] }

abbrev pub format_mismatch : ℕ → Refusal
format_mismatch v = record { number = 2; values = v ∷ [] }

-- a reader's fault: nothing for Short, the code of a device
abbrev pub fault_values : ReadFault → List ℕ
fault_values Short = []
fault_values (Device code) = code ∷ []

abbrev pub io_error : ReadFault → Refusal
io_error f = record { number = 3; values = fault_values f }

abbrev pub is_broken : ℕ → ℕ → Refusal
is_broken rule place = record { number = 4; values = rule ∷ place ∷ [] }

-- the rules by their numbers
abbrev pub rule_number : Rule → ℕ
rule_number Level1Count = 1
rule_number Level0Start = 2
rule_number Level1Mask = 3
rule_number Level1Start = 4
rule_number DataCount = 5
rule_number DataBlock = 6

abbrev pub access_refusal : AccessError → Refusal
access_refusal UnexpectedEof = unexpected_eof
access_refusal (FormatMismatch v) = format_mismatch v
access_refusal (IOError f) = io_error f
access_refusal (Broken rule place) = is_broken (rule_number rule) place

-- the refusal of an answer, or None where it accepts
abbrev pub accessed : {A : Type 0} → Result A AccessError → Option Refusal
accessed (Ok x) = None
accessed (Err e) = Some (access_refusal e)
