-- What reading an image gives for any reader, and how many bytes it takes.
use Rattle.std.specs.Prelude.{ℕ, cond, List, Some, None, Option, ◌==◌, nat_lt}
use Rattle.bitset_interface.specs.Refusals.{Refusal}
use Rattle.reader.specs.Fields.{Run, whole, edge}
use Rattle.reader.specs.Streams.{Stream, left}
use Rattle.serialization.specs.Faults.{io_error, format_mismatch}
use Rattle.serialization.specs.Image.{version, version_in}
use Rattle.serialization.specs.Layout.{header_size, header_fields}

pub record Outcome : Type 0 where
  pub refusal : Option Refusal
  pub taken : ℕ

-- the reader refuses a field of these
abbrev pub short : List Run → Stream → Outcome
short fields s = record { refusal = Some (io_error (s.front.fault (edge (left s) fields))); taken = whole (left s) fields }

abbrev pub refused_after : ℕ → Refusal → Outcome
refused_after k r = record { refusal = Some r; taken = k }

abbrev pub accepted_after : ℕ → Outcome
accepted_after k = record { refusal = None; taken = k }

-- of the header: the version, then n and d
unfoldable pub headed : Stream → Outcome
headed s =
    cond (nat_lt (left s) 2) (short header_fields s)
    (cond (version_in s.front.bytes == version)
    (cond (nat_lt (left s) header_size) (short header_fields s) (accepted_after header_size))
    (refused_after 2 (format_mismatch (version_in s.front.bytes))))
