-- `timetable_entries::rest::fill` meets its contract: each return is one law of the rest of a file. Assumes nothing.
use Prim.Native.Nat.{ℕ}
use mathlib.Core.Path.{sym, ◌∙◌, ap}
use mathlib.Core.List.{List}
use lib.ListN.{length, length-replicate}
use Rattle.std.proofs.lemmas.Result.{err_from_is_err_and}
use Rattle.base.specs.RefusalNumbers.{number_of}
use Rattle.timetable.specs.Formats.{read}
use Rattle.timetable.specs.TimetableFile.{timetable_format}
use Rattle.timetable_entries.specs.Answers.{fault_told}
use Rattle.timetable_entries.specs.between.Entering.{no_fault, timetable_entries, timetable_sheet}
use Rattle.timetable_entries.proofs.SheetEntries.{progress}
use Rattle.timetable_entries.proofs.PartLaws.{timetable_took, timetable_refusal}
use Rattle.timetable_entries.proofs.RestLaws.{start, entries_faulty, goes_on, first-refused, none-refused, fills_none, fills_all}
use Rattle.timetable_entries.proofs.rest.fill.Goals as goal

pub entries-requires : goal.entries-requires
entries-requires c = ap length c.requires ∙ length-replicate {A = ℕ} 8192 0

pub returns-in_err-refused : goal.returns-in_err-refused
returns-in_err-refused c =
    let s = c.args in
    let e = c.in_err-refused.field-0.0 in
    let p = err_from_is_err_and c.from_residual.result c.from_residual.ensures.1 in
    let o = read (timetable_format s.form) s.file.now s.at in
    let told = c.in_err-refused.ensures.read ∙ ap (λ (l : List ℕ). timetable_entries s.n.now (progress l no_fault) o) c.requires in
    let q = timetable_refusal s.n.now start o (number_of e.refusal) e.place told in
    rw (p.1, p.2) (fills_none _ (number_of e.refusal) e.place (entries_faulty s.form s.n.now (fault_told s.fault) s.file.now s.at (number_of e.refusal) e.place q) _)

pub returns-then-next-file : goal.returns-then-next-file
returns-then-next-file c =
    let s = c.args in
    let v = c.in_ok-refused in
    let o = read (timetable_format s.form) s.file.now s.at in
    let told = v.ensures.read ∙ ap (λ (l : List ℕ). timetable_entries s.n.now (progress l no_fault) o) c.requires in
    let (x, q, f) = timetable_took s.n.now start o (fault_told v.refused) v.next told in
    fills_none _ 1 v.next (goes_on s.form s.n.now (fault_told s.fault) s.file.now s.at x v.next q c.if-next-file.true) _

pub returns-in-Some : goal.returns-in-Some
returns-in-Some c =
    let s = c.args in
    let v = c.in_ok-refused in
    let e = c.in-Some.error in
    let o = read (timetable_format s.form) s.file.now s.at in
    let told = v.ensures.read ∙ ap (λ (l : List ℕ). timetable_entries s.n.now (progress l no_fault) o) c.requires in
    let (x, q, f) = timetable_took s.n.now start o (fault_told v.refused) v.next told in
    fills_none _ (number_of e.refusal) e.place
    (first-refused s.form s.n.now s.file.now s.at x v.next q c.if-next-file.false s.fault v.refused f e (sym c.or.ensures ∙ c.in-Some.is)) _

pub returns-in-None : goal.returns-in-None
unfolding timetable_sheet
returns-in-None c =
    let s = c.args in
    let v = c.in_ok-refused in
    let o = read (timetable_format s.form) s.file.now s.at in
    let told = v.ensures.read ∙ ap (λ (l : List ℕ). timetable_entries s.n.now (progress l no_fault) o) c.requires in
    let (x, q, f) = timetable_took s.n.now start o (fault_told v.refused) v.next told in
    let own = v.ensures.ok ∙ ap (λ (l : List ℕ). timetable_sheet s.n.now (progress l no_fault) o) c.requires ∙ ap (timetable_sheet s.n.now start) q in
    let (m, z, is) = none-refused s.form s.n.now s.file.now s.at x v.next q c.if-next-file.false s.fault v.refused f (sym c.or.ensures ∙ c.in-None.is) c.entries.new.sheet own in
    fills_all _ m v.next z _ is
