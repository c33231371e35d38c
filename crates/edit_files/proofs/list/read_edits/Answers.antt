-- `edit_files::list::read_edits` meets its contract: the part decides, and then whether anything is behind it. Assumes
-- nothing.
use mathlib.Core.Path.{sym, ap}
use Rattle.std.proofs.lemmas.Result.{err_from_is_err_and}
use Rattle.base.specs.RefusalNumbers.{number_of}
use Rattle.timetable.specs.EditsFile.{edits_format, read_edits_as}
use Rattle.edit_files.specs.Answers.{listed}
use Rattle.edit_files.proofs.EditsParts.{listed_on, listed_stop, file_read, file_goes_on, file_faulty}
use Rattle.edit_files.proofs.list.read_edits.Goals as goal

pub returns-in_err-list : goal.returns-in_err-list
unfolding read_edits_as listed
returns-in_err-list c =
    let s = c.args in
    let e = c.in_err-list.field-0.0 in
    let p = err_from_is_err_and c.from_residual.result c.from_residual.ensures.1 in
    rw (p.1, p.2) (sym (ap listed (file_faulty (edits_format s.form) s.file.now (number_of e.refusal) e.place (listed_stop _ (number_of e.refusal) e.place c.in_err-list.ensures))))

pub returns-in_err-ended : goal.returns-in_err-ended
unfolding read_edits_as listed
returns-in_err-ended c =
    let s = c.args in
    let l = c.in_ok-list in
    let p = err_from_is_err_and c.from_residual-in_err-ended.result c.from_residual-in_err-ended.ensures.1 in
    let (x, o, q) = listed_on _ l.list l.end l.ensures in
    let d = c.in_err-ended.ensures in
    rw (p.1, p.2, d.1) (sym (ap listed (file_goes_on (edits_format s.form) s.file.now x l.end o d.0)))

pub returns : goal.returns
unfolding read_edits_as listed
returns c =
    let s = c.args in
    let l = c.in_ok-list in
    let (x, o, q) = listed_on _ l.list l.end l.ensures in
    rw q (sym (ap listed (file_read (edits_format s.form) s.file.now x l.end o c.in_ok-ended.ensures)))
