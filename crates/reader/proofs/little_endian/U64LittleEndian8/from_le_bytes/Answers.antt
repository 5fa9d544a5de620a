use Rattle.std.proofs.Common.{◌∙◌}
use Rattle.reader.proofs.LittleEndians.{value_8}
use Rattle.reader.proofs.little_endian.U64LittleEndian8.from_le_bytes.Goals as goal

pub returns : goal.returns
returns c = c.from_le_bytes.ensures ∙ value_8 c.args.bytes.now c.told-bytes
