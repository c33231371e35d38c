-- `timetable_entries::rest::read_rest` meets its contract: no sheet, a refusal, or the sheet that was filled. Assumes
-- nothing.
use mathlib.Core.Path.{refl, sym, ◌∙◌}
use Rattle.std.proofs.lemmas.Result.{err_from_is_err_and}
use Rattle.base.specs.RefusalNumbers.{number_of}
use Rattle.fields.proofs.EndLaws.{end_accepted, end_refused}
use Rattle.timetable_entries.specs.Answers.{fault_told}
use Rattle.timetable_entries.specs.between.Rest.{rest_of}
use Rattle.timetable_entries.proofs.RestLaws.{no_sheet, rest_refused, rest_taken}
use Rattle.timetable_entries.proofs.rest.read_rest.Goals as goal

pub returns-then-sheet-ne8192 : goal.returns-then-sheet-ne8192
returns-then-sheet-ne8192 c = let s = c.args in no_sheet s.form s.n.now (fault_told s.fault) s.file.now s.at s.sheet.now c.if-sheet-ne8192.true

pub fill-requires : goal.fill-requires
fill-requires c = refl

pub returns-in_err-next : goal.returns-in_err-next
returns-in_err-next c =
    let s = c.args in
    let e = c.in_err-next.field-0.0 in
    let p = err_from_is_err_and c.from_residual.result c.from_residual.ensures.1 in
    let o = rest_of s.form s.n.now (fault_told s.fault) s.file.now s.at in
    let z = end_refused o (number_of e.refusal) e.place (sym c.in_err-next.ensures.0) in
    rw (p.1, p.2) (rest_refused s.form s.n.now (fault_told s.fault) s.file.now s.at s.sheet.now c.if-sheet-ne8192.false (number_of e.refusal) e.place z)

pub returns : goal.returns
returns c =
    let s = c.args in
    let r = c.in_ok-next in
    let o = rest_of s.form s.n.now (fault_told s.fault) s.file.now s.at in
    let (m, z) = end_accepted o r.next (sym r.ensures.0) in
    let (a, b) = rest_taken s.form s.n.now (fault_told s.fault) s.file.now s.at s.sheet.now c.if-sheet-ne8192.false m r.next z in
    (a, c.copy_from_slice.ensures.after ∙ r.ensures.1 m r.next z ∙ b)
