use Rattle.std.proofs.Common.{◌∙◌}
use Rattle.reader.proofs.LittleEndians.{le_bytes_2}
use Rattle.reader.proofs.little_endian.U16LittleEndian2.to_le_bytes.Goals as goal

pub returns : goal.returns
returns c = c.to_le_bytes.ensures ∙ le_bytes_2 c.args.self
