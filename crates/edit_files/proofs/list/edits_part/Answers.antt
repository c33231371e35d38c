-- `edit_files::list::edits_part` meets its contract: the count decides, and an accepted one is followed by the edits.
-- Assumes nothing.
use mathlib.Core.Path.{sym, ◌∙◌, ap}
use Rattle.std.proofs.lemmas.Result.{err_from_is_err_and}
use Rattle.base.specs.RefusalNumbers.{number_of}
use Rattle.timetable.specs.Formats.{placed}
use Rattle.timetable.specs.EditsFile.{edits_on, edits_format}
use Rattle.edit_files.specs.Answers.{listed}
use Rattle.fields.proofs.EntryLaws.{field_on, field_stop, placed_some, placed_none}
use Rattle.fields.proofs.EndLaws.{end_accepted, end_refused}
use Rattle.edit_files.proofs.EditsParts.{edits_many}
use Rattle.edit_files.proofs.list.edits_part.Goals as goal

pub returns-in_err-count : goal.returns-in_err-count
unfolding edits_format listed
returns-in_err-count c =
    let s = c.args in
    let e = c.in_err-count.field-0.0 in
    let p = err_from_is_err_and c.from_residual.result c.from_residual.ensures.1 in
    rw (p.1, p.2) (sym (ap listed (field_stop 0 1000 (λ k. placed (edits_on s.form k)) s.file.now s.at (number_of e.refusal) e.place (sym c.in_err-count.ensures))))

pub returns-in_err-end : goal.returns-in_err-end
unfolding edits_format listed
returns-in_err-end c =
    let s = c.args in
    let n = c.in_ok-count in
    let e = c.in_err-end.field-0.0 in
    let p = err_from_is_err_and c.from_residual-in_err-end.result c.from_residual-in_err-end.ensures.1 in
    let o = end_refused _ (number_of e.refusal) e.place (sym c.in_err-end.ensures) in
    rw (p.1, p.2)
    (sym (ap listed (field_on 0 1000 (λ k. placed (edits_on s.form k)) s.file.now s.at n.count n.first (sym n.ensures)
    ∙ placed_none (edits_on s.form n.count) s.file.now n.first (number_of e.refusal) e.place o)))

pub returns : goal.returns
unfolding edits_format listed
returns c =
    let s = c.args in
    let n = c.in_ok-count in
    let m = c.in_ok-end in
    let (es, o) = end_accepted _ m.end (sym m.ensures) in
    sym (ap listed (field_on 0 1000 (λ k. placed (edits_on s.form k)) s.file.now s.at n.count n.first (sym n.ensures)
    ∙ placed_some (edits_on s.form n.count) s.file.now n.first es m.end o) ∙ rw (edits_many s.form n.count s.file.now n.first es m.end o))
