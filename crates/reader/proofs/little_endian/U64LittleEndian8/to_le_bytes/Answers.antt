use Rattle.std.proofs.Common.{◌∙◌}
use Rattle.reader.proofs.LittleEndians.{le_bytes_8}
use Rattle.reader.proofs.little_endian.U64LittleEndian8.to_le_bytes.Goals as goal

pub returns : goal.returns
returns c = c.to_le_bytes.ensures ∙ le_bytes_8 c.args.self
