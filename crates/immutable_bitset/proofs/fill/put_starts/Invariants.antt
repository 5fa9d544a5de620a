use Rattle.std.proofs.Common.{◌≡◌, ◌+◌, ◌*◌, take}
use Rattle.packing.specs.Packed.{before, start_words_to}
use Rattle.packing.specs.Wrote.{Wrote}
use Rattle.immutable_bitset.proofs.fill.put_starts.Given as goal

-- the starts of 4 q words are written, and `sum` raised bits stand in these words
abbrev pub invariant-loop-q : goal.invariant-loop-q
invariant-loop-q l = record {
  wrote : Wrote l.initial.words l.words l.len (start_words_to (take l.len l.initial.words) l.q) (l.len + l.q);
  sum : l.sum ≡ before (take l.len l.initial.words) (4 * l.q);
}
