use Rattle.std.proofs.Common.{◌+◌, ◌≤◌, length, arith}
use Rattle.reader.proofs.LittleEndians.{length-bytes}
use Rattle.serialization.specs.Image.{version}
use Rattle.serialization.proofs.Puts.{puts_then}
use Rattle.serialization.proofs.write.Cursor.put_header.Goals as goal

pub put_number-requires-2 : goal.put_number-requires-2
put_number-requires-2 c =
    let h : c.put_number.new.self.at + 2 ≤ length c.put_number.new.self.buffer.now =
    omega (arith, c.requires, c.put_number.ensures.wrote.to, c.put_number.ensures.wrote.long, length-bytes 2 version) in
    h

pub put_number-requires-3 : goal.put_number-requires-3
put_number-requires-3 c =
    let p = puts_then c.put_number.ensures c.put_number-2.ensures in
    let h : c.put_number-2.new.self.at + 4 ≤ length c.put_number-2.new.self.buffer.now =
    omega (arith, c.requires, c.put_number.ensures.wrote.to, c.put_number-2.ensures.wrote.to, p.wrote.long, length-bytes 2 version, length-bytes 2 c.args.n) in
    h

pub returns : goal.returns
returns c = puts_then (puts_then c.put_number.ensures c.put_number-2.ensures) c.put_number-3.ensures
