use Rattle.std.proofs.Common.{◌∙◌}
use Rattle.reader.proofs.LittleEndians.{le_bytes_4}
use Rattle.reader.proofs.little_endian.U32LittleEndian4.to_le_bytes.Goals as goal

pub returns : goal.returns
returns c = c.to_le_bytes.ensures ∙ le_bytes_4 c.args.self
