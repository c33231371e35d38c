-- `timetable_entries::read::entries` meets its contract: visits and then relations, each by its part of the file.
-- Assumes nothing.
use Prim.Native.Nat.{ℕ}
use mathlib.Core.Path.{◌≡◌, sym, ◌∙◌, ap}
use mathlib.Core.List.{List}
use Rattle.std.proofs.lemmas.Result.{err_from_is_err_and}
use Rattle.base.specs.RefusalNumbers.{number_of}
use Rattle.timetable.specs.Formats.{read}
use Rattle.timetable.specs.declared.Fault.{Fault}
use Rattle.timetable_entries.specs.Answers.{fault_told}
use Rattle.timetable_entries.specs.between.Entering.{no_fault, through, visit_step, entries_sheet, timetable_entries, visit_part}
use Rattle.timetable_entries.proofs.SheetEntries.{progress}
use Rattle.timetable_entries.proofs.PartLaws.{entries_took, entries_refusal, visits_refused, joined}
use Rattle.timetable_entries.proofs.read.entries.Goals as goal

pub returns-in_err-fault-clause-read : goal.returns-in_err-fault-clause-read
unfolding timetable_entries
returns-in_err-fault-clause-read c =
    let s = c.args in
    let e = c.in_err-fault.field-0.0 in
    let p = err_from_is_err_and c.from_residual.result c.from_residual.ensures.1 in
    let g = progress s.sheet.now no_fault in
    let o = entries_refusal (visit_step s.n.now) g (read (visit_part s.form) s.file.now s.at) (number_of e.refusal) e.place c.in_err-fault.ensures.read in
    rw (p.1, p.2) (sym (ap (timetable_entries s.n.now g) (visits_refused s.form s.file.now s.at (number_of e.refusal) e.place o)))

pub returns : goal.returns
unfolding entries_sheet
returns c =
    let s = c.args in
    let v = c.in_ok-fault in
    let r = c.relation_part in
    let g = progress s.sheet.now no_fault in
    let (ps, o, f) = entries_took (visit_step s.n.now) g (read (visit_part s.form) s.file.now s.at) (fault_told v.fault) v.next v.ensures.read in
    let b = v.ensures.ok ∙ ap (entries_sheet (visit_step s.n.now) g) o in
    let later = progress c.visit_part.new.sheet (fault_told v.fault) in
    let is : later ≡ through (visit_step s.n.now) ps g =
    ap (λ (l : List ℕ). progress l (fault_told v.fault)) b ∙ ap (λ (y : Fault). progress (through (visit_step s.n.now) ps g).sheet y) f in
    let (x, y) = joined s.form s.file.now s.at ps v.next o s.n.now g later is in
    record { read = r.ensures.read ∙ x; ok = rw (← y) r.ensures.ok }
