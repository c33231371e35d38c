-- `timetable_writing::calls::put_visit` meets its contract: the numbers of the visit. Assumes nothing.
use mathlib.Core.Path.{ap, ◌∙◌}
use borrow.Author.Rules.{rules}
use lib.ListN.{take}
use native.Mathlib.Omega.{arith}
use Rattle.fields.proofs.NumbersPut.{near}
use Rattle.timetable_writing.proofs.TimetableLaws.{whole_row, writes_as}
use Rattle.timetable_writing.proofs.calls.put_visit.Goals as goal

pub returns : goal.returns
returns c =
    let s = c.args in
    let w = c.put_row in
    let v = writes_as s.at w.result _ _ s.out.now w.new.out 39 (ap (take 13) c.in_use.ensures ∙ whole_row _ _ c.visit_numbers.ensures (search rules)) (near s.at _ s.out.now w.result w.new.out 39 (omega arith) w.ensures) in
    (v.0, v.1, omega (arith, v.2))
