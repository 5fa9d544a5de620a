-- What a reader has: the bytes to come, and a fault for each count of bytes that is greater.
use Rattle.std.specs.Prelude.{ℕ, ◌+◌, List, length, drop}
use Rattle.reader.specs.declared.fault.ReadFault.{ReadFault}

pub record Coming : Type 0 where
  pub bytes : List ℕ
  pub fault : ℕ → ReadFault

-- k bytes later: k comes off every count
abbrev pub past : ℕ → Coming → Coming
past k c = record { bytes = drop k c.bytes; fault = λ n. c.fault (k + n) }

-- a reader: what it gives, what the reader has that was lent to it, and who lent that one
pub record Stream : Type 0 where
  pub front : Coming
  pub below : Coming
  pub lender : List ℕ

abbrev pub after : ℕ → Stream → Stream
after k s = record { front = past k s.front; below = past k s.below; lender = s.lender }

-- how many bytes are to come
abbrev pub left : Stream → ℕ
left s = length s.front.bytes
