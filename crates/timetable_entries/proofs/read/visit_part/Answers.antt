-- `timetable_entries::read::visit_part` meets its contract: the count decides, or the entries behind it. Assumes
-- nothing.
use Prim.Native.Nat.{ℕ}
use mathlib.Core.Path.{sym, ◌∙◌, ap}
use native.Mathlib.Omega.{arith}
use Rattle.std.proofs.lemmas.Result.{err_from_is_err_and}
use Rattle.base.specs.RefusalNumbers.{number_of}
use Rattle.timetable.specs.Formats.{read}
use Rattle.timetable.specs.TimetableFile.{visits_format}
use Rattle.fields.proofs.EntryLaws.{field_bounded}
use Rattle.timetable_entries.specs.between.Entering.{no_fault, visit_step, entries_read}
use Rattle.timetable_entries.proofs.SheetEntries.{progress}
use Rattle.timetable_entries.proofs.PartLaws.{visit_part_stop, visit_part_then}
use Rattle.timetable_entries.proofs.read.visit_part.Goals as goal

pub visits-requires : goal.visits-requires
visits-requires c =
    let s = c.args in
    (c.requires, omega (arith, (field_bounded 0 384 s.file.now s.at c.in_ok-count.count c.in_ok-count.next (sym c.in_ok-count.ensures)).1))

pub returns-in_err-count-clause-read : goal.returns-in_err-count-clause-read
unfolding entries_read
returns-in_err-count-clause-read c =
    let s = c.args in
    let e = c.in_err-count.field-0.0 in
    let p = err_from_is_err_and c.from_residual.result c.from_residual.ensures.1 in
    rw (p.1, p.2) (sym (ap (entries_read (visit_step s.n.now) (progress s.sheet.now no_fault)) (visit_part_stop s.form s.file.now s.at (number_of e.refusal) e.place (sym c.in_err-count.ensures))))

pub returns : goal.returns
returns c =
    let s = c.args in
    let q = visit_part_then s.form s.file.now s.at c.in_ok-count.count c.in_ok-count.next (sym c.in_ok-count.ensures) ∙ ap (λ (k : ℕ). read (visits_format s.form k) s.file.now c.in_ok-count.next) (sym c.from.ensures) in
    rw q (record { read = c.visits.ensures.read; ok = c.visits.ensures.ok })
