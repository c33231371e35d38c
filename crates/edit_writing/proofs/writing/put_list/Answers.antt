-- `edit_writing::writing::put_list` meets its contract: the count, and the edits behind it. Assumes nothing.
use native.Mathlib.Omega.{arith}
use Rattle.fields.proofs.NumbersPut.{one_near}
use Rattle.edit_writing.proofs.WritingLaws.{list_put}
use Rattle.edit_writing.proofs.writing.put_list.Goals as goal

pub returns : goal.returns
returns c es end o =
    let s = c.args in
    let v = c.put_number-at in
    let w = c.put_edits in
    let x = one_near 0 s.list.count s.out.now v.result v.new.out 3 (omega arith) v.ensures in
    let y = w.ensures es end o in
    list_put s.list.count es v.result w.result s.out.now v.new.out w.new.out x.0 x.1 y.0 y.1
