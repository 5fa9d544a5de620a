use Rattle.std.proofs.Common.{◌∙◌}
use Rattle.reader.proofs.LittleEndians.{value_4}
use Rattle.reader.proofs.little_endian.U32LittleEndian4.from_le_bytes.Goals as goal

pub returns : goal.returns
returns c = c.from_le_bytes.ensures ∙ value_4 c.args.bytes.now c.told-bytes
