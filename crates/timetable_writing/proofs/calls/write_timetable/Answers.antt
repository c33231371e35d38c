-- `timetable_writing::calls::write_timetable` meets its contract: each return by the tests that led there; a pass over
-- a spare byte counts, and the same pass writes. Assumes nothing.
use mathlib.Core.Path.{sym, ◌∙◌, ap}
use lib.ListN.{length}
use Rattle.std.proofs.lemmas.Result.{err_from_is_err_and}
use Rattle.timetable_writing.proofs.WritingCall.{timetable_no_sheet, timetable_bad_network, timetable-bad-sheet, timetable-short, timetable-fits}
use Rattle.timetable_writing.proofs.calls.write_timetable.Goals as goal

pub returns-in_default : goal.returns-in_default
returns-in_default c = let s = c.args in timetable_no_sheet s.n.now s.sheet.now s.out.now c.in_default.ensures.cases

pub returns-in_err-check : goal.returns-in_err-check
returns-in_err-check c =
    let s = c.args in
    let p = err_from_is_err_and c.from_residual.result c.from_residual.ensures.1 in
    rw (p.1, p.2) (timetable_bad_network s.n.now s.sheet.now s.out.now c.in-Some.ensures.cases.long c.in_err-check.field-0.0 c.in_err-check.ensures)

pub returns-then-not-good_sheet : goal.returns-then-not-good_sheet
returns-then-not-good_sheet c =
    let s = c.args in
    let whole = c.in-Some.ensures.cases in
    rw (← whole.same)
    (timetable-bad-sheet s.n.now c.in-Some.sheet.now s.out.now (ap length whole.same ∙ whole.long) (sym c.in_ok-check.ensures) (sym c.good_sheet.ensures ∙ c.if-not-good_sheet.true))

pub returns-then-out-needed : goal.returns-then-out-needed
returns-then-out-needed c =
    let s = c.args in
    let p = c.put_timetable-needed in
    let whole = c.in-Some.ensures.cases in
    rw (← whole.same)
    (timetable-short s.n.now c.in-Some.sheet.now s.out.now (ap length whole.same ∙ whole.long) (sym c.in_ok-check.ensures) (sym c.good_sheet.ensures ∙ c.if-not-good_sheet.false)
    p.result p.ensures.0 c.if-out-needed.true)

pub returns : goal.returns
returns c =
    let s = c.args in
    let p = c.put_timetable-needed in
    let whole = c.in-Some.ensures.cases in
    let x = timetable-fits s.n.now c.in-Some.sheet.now s.out.now (ap length whole.same ∙ whole.long) (sym c.in_ok-check.ensures) (sym c.good_sheet.ensures ∙ c.if-not-good_sheet.false)
    p.result p.ensures.0 c.if-out-needed.false in
    rw (← whole.same) (x.0, c.put_timetable.ensures.1 ∙ x.1)
