-- The positions that a source does not hold.
use Rattle.std.specs.Prelude.{not}
use Rattle.bitset_interface.specs.Source.{Source, Lawful}
use Rattle.bitset_interface.specs.Spread.{spread, spread_lawful}

abbrev pub complement : Source → Source
complement s = spread s.conf (λ i j k. not (s.up2 i j k))

pub complement_lawful : (s : Source) → Lawful (complement s)
complement_lawful s = spread_lawful s.conf (λ i j k. not (s.up2 i j k))
