-- `records::bytes::put_front` meets its contract: room is made, and the record is written over the first 16 bytes.
-- Assumes nothing.
use Rattle.std.proofs.Common.{arith}
use Rattle.records.proofs.ByteLaws.{front_put}
use Rattle.records.proofs.bytes.put_front.Goals as goal

pub returns : goal.returns
returns c =
    let m = c.make_room-moved in
    let k = c.copy_from_slice in
    (m.ensures.0, front_put c.args.part.now c.args.new m.new.part k.new.self (omega arith) m.ensures.1 k.ensures.after)
