-- `timetable_writing::calls::sheet_totals` meets its contract: the totals, where there is a sheet. Assumes nothing.
use mathlib.Core.Path.{◌∙◌, ap}
use lib.ListN.{length}
use Rattle.timetable_writing.proofs.CountLaws.{no_sheet, counted}
use Rattle.timetable_writing.proofs.calls.sheet_totals.Goals as goal

pub returns-in_default-clause-told : goal.returns-in_default-clause-told
returns-in_default-clause-told c = let s = c.args in no_sheet s.n.now s.sheet.now c.in_default.ensures.cases

pub returns-clause-told : goal.returns-clause-told
returns-clause-told c =
    let s = c.args in
    let v = c.visit_total in
    let r = c.relation_total in
    let whole = c.in-Some.ensures.cases in
    rw (← whole.same) (counted s.n.now c.in-Some.sheet.now v.result r.result (ap length whole.same ∙ whole.long) v.ensures.0 r.ensures.0)
