-- A request for as many bytes as a buffer has.
use Rattle.std.specs.Prelude.{◌≡◌, ℕ, ◌<◌, ◌≤◌, cond, List, length, take, Ok, Err, Result, nat_lt}
use Rattle.reader.specs.declared.fault.ReadFault.{ReadFault}
use Rattle.reader.specs.declared.fault.ReadFault.TheVariants.{Short, Device}
use Rattle.reader.specs.Streams.{Coming, Stream, after, left}

-- the reader before, the buffer before, the answer, the reader after, the buffer after: it is filled and the bytes are
-- taken, or, just where too few remain, it is refused with the fault of its count, and all is as it was
abbrev pub Reads : Stream → List ℕ → Result (Unit {0}) ReadFault → Stream → List ℕ → Type 0
Reads s buf (Ok _) t now = (length buf ≤ left s) × (now ≡ take (length buf) s.front.bytes) × (t ≡ after (length buf) s)
Reads s buf (Err e) t now = (left s < length buf) × (e ≡ s.front.fault (length buf)) × (t ≡ s) × (now ≡ buf)

-- a slice: all its faults are Short
abbrev pub slice : List ℕ → Coming
slice bytes = record { bytes = bytes; fault = λ _. Short }

-- bytes of a device that ends in a fault of its own
abbrev pub device : List ℕ → ℕ → Coming
device bytes code = record { bytes = bytes; fault = λ _. Device code }

-- the next m bytes: Short for counts above m, else the fault below
abbrev pub limited : ℕ → Coming → Coming
limited m c = record { bytes = take m c.bytes; fault = λ n. cond (nat_lt m n) Short (c.fault n) }

-- a reader that nobody lent another
abbrev pub alone : Coming → List ℕ → Stream
alone c lender = record { front = c; below = c; lender = lender }

-- a limit over any reader
abbrev pub over : ℕ → Stream → Stream
over m s = record { front = limited m s.front; below = s.below; lender = s.lender }
