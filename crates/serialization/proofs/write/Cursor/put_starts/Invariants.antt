use Rattle.std.proofs.Common.{[], ◌∷◌}
use Rattle.packing.specs.Gathered.{gather}
use Rattle.reader.specs.LittleEndian.{laid}
use Rattle.serialization.specs.Stored.{field_at}
use Rattle.serialization.specs.Writing.{Puts}
use Rattle.serialization.proofs.write.Cursor.put_starts.Given as goal

abbrev pub invariant-loop-q : goal.invariant-loop-q
invariant-loop-q l = Puts l.initial.self l.self (laid 2 (gather (λ q. field_at l.words q ∷ []) l.q))
