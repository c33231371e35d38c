-- `timetable_entries::read::relation_part` meets its contract: the count decides, or the entries behind it. Assumes
-- nothing.
use Prim.Native.Nat.{ℕ}
use mathlib.Core.Path.{sym, ◌∙◌, ap}
use native.Mathlib.Omega.{arith}
use Rattle.std.proofs.lemmas.Result.{err_from_is_err_and}
use Rattle.base.specs.RefusalNumbers.{number_of}
use Rattle.timetable.specs.Formats.{read}
use Rattle.timetable.specs.TimetableFile.{relations_format}
use Rattle.fields.proofs.EntryLaws.{field_bounded}
use Rattle.timetable_entries.specs.Answers.{fault_told}
use Rattle.timetable_entries.specs.between.Entering.{relation_step, entries_read}
use Rattle.timetable_entries.proofs.SheetEntries.{progress}
use Rattle.timetable_entries.proofs.PartLaws.{relation_part_stop, relation_part_then}
use Rattle.timetable_entries.proofs.read.relation_part.Goals as goal

pub relations-requires : goal.relations-requires
relations-requires c =
    let s = c.args in
    (c.requires, omega (arith, (field_bounded 0 96 s.file.now s.at c.in_ok-count.count c.in_ok-count.next (sym c.in_ok-count.ensures)).1))

pub returns-in_err-count-clause-read : goal.returns-in_err-count-clause-read
unfolding entries_read
returns-in_err-count-clause-read c =
    let s = c.args in
    let e = c.in_err-count.field-0.0 in
    let p = err_from_is_err_and c.from_residual.result c.from_residual.ensures.1 in
    rw (p.1, p.2) (sym (ap (entries_read (relation_step s.n.now) (progress s.sheet.now (fault_told s.fault))) (relation_part_stop s.file.now s.at (number_of e.refusal) e.place (sym c.in_err-count.ensures))))

pub returns : goal.returns
returns c =
    let s = c.args in
    let q = relation_part_then s.file.now s.at c.in_ok-count.count c.in_ok-count.next (sym c.in_ok-count.ensures) ∙ ap (λ (k : ℕ). read (relations_format k) s.file.now c.in_ok-count.next) (sym c.from.ensures) in
    rw q (record { read = c.relations.ensures.read; ok = c.relations.ensures.ok })
