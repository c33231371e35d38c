-- `edit_files::list::scan_edits` meets its contract. The loop's invariant: the list is the edits read and then what is
-- left. Assumes nothing.
use Prim.Native.Nat.{◌-◌}
use mathlib.Core.Path.{◌≡◌, sym, ap}
use native.Mathlib.Omega.{arith}
use Rattle.std.proofs.lemmas.Result.{err_from_is_err_and}
use Rattle.base.specs.RefusalNumbers.{number_of}
use Rattle.timetable.specs.EditsFile.{edits_on}
use Rattle.fields.specs.Outcomes.{end_of}
use Rattle.fields.proofs.ReadLaws.{start, turn, stop, over}
use Rattle.edit_files.proofs.EditsParts.{edit_taken, edit_stopped, edits_over}
use Rattle.edit_files.proofs.list.scan_edits.Goals as goal

pub loop-i-init : goal.loop-i-init
loop-i-init c =
    let m : c.args.count - 0 ≡ c.args.count = omega arith in
    (omega arith, start _ _ (rw m))

pub returns-in_err-next : goal.returns-in_err-next
unfolding end_of edits_on
returns-in_err-next c =
    let s = c.args in
    let l = c.loop-i in
    let e = c.in_err-next.field-0.0 in
    let p = err_from_is_err_and c.from_residual.result c.from_residual.ensures.1 in
    let q = edit_stopped s.form s.file.now s.count l.i l.place (omega arith) (number_of e.refusal) e.place (sym c.in_err-next.ensures) in
    rw (p.1, p.2) (sym (ap end_of (stop _ _ _ l.invariant.1 (number_of e.refusal) e.place q)))

pub loop-i-preserved : goal.loop-i-preserved
loop-i-preserved c =
    let s = c.args in
    let l = c.loop-i in
    let m = c.in_ok-next in
    let q = edit_taken s.form s.file.now s.count l.i l.place (omega arith) m.field-0-0 m.next (sym m.ensures) in
    (omega arith, turn _ _ _ l.invariant.1 m.field-0-0 _ q)

pub returns : goal.returns
unfolding end_of edits_on
returns c =
    let s = c.args in
    let l = c.loop-i in
    sym (ap end_of (over _ _ _ l.invariant.1 l.place (edits_over s.form s.file.now s.count l.i l.place (omega arith))))
