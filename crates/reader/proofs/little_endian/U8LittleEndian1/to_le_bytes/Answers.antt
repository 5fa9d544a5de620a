use Rattle.std.proofs.Common.{◌∙◌, arith}
use Rattle.reader.proofs.LittleEndians.{le_bytes_1}
use Rattle.reader.proofs.little_endian.U8LittleEndian1.to_le_bytes.Goals as goal

pub returns : goal.returns
returns c = c.to_le_bytes.ensures ∙ le_bytes_1 c.args.self (omega arith)
