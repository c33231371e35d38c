-- `edit_writing::writing::put_edits` meets its contract. The loop's invariant: the list is the edits read and then what
-- is left, and those read are put. Assumes nothing.
use Prim.Native.Nat.{◌+◌, ◌-◌}
use mathlib.Core.Path.{◌≡◌, refl, sym, ◌∙◌}
use mathlib.Core.List.{List, flat_map}
use native.Mathlib.Omega.{arith}
use lib.ListN.{length}
use Rattle.railway.specs.declared.edit.Edit.{Edit}
use Rattle.base.specs.RefusalNumbers.{number_of}
use Rattle.timetable.specs.Formats.{bytes_of}
use Rattle.timetable.specs.FileForms.{newest_form}
use Rattle.timetable.specs.EditsFile.{edits_on}
use Rattle.timetable.specs.Outputs.{put}
use Rattle.timetable.proofs.OutcomeLaws.{clash}
use Rattle.fields.proofs.ReadLaws.{start, turn, stop, over}
use Rattle.fields.proofs.NumbersPut.{near}
use Rattle.edit_files.proofs.EditsParts.{edit_taken, edit_stopped, edits_over}
use Rattle.edit_writing.proofs.WritingLaws.{list_bytes, edit_put, same_edits}
use Rattle.edit_writing.proofs.writing.put_edits.Goals as goal

pub loop-i-init : goal.loop-i-init
unfolding start put bytes_of flat_map
loop-i-init c =
    let m : c.args.list.count - 0 ≡ c.args.list.count = omega arith in
    (omega arith, omega arith, refl, (start _ _ (rw m), omega arith, refl))

pub returns-in-Err : goal.returns-in-Err
unfolding edits_on
returns-in-Err c es end e =
    let s = c.args in
    let l = c.loop-i in
    let r = c.in-Err.field-0 in
    let q = edit_stopped newest_form s.file.now s.list.count l.i l.place (omega arith) (number_of r.refusal) r.place (sym c.in-Err.ensures) in
    clash es end (number_of r.refusal) r.place (sym (stop _ _ _ l.invariant.3.0 (number_of r.refusal) r.place q) ∙ e)

pub loop-i-preserved : goal.loop-i-preserved
unfolding turn
loop-i-preserved c =
    let s = c.args in
    let l = c.loop-i in
    let m = c.in-Ok in
    let q = edit_taken newest_form s.file.now s.list.count l.i l.place (omega arith) m.e m.behind (sym m.ensures) in
    let f = l.invariant.3.0 in
    let w = c.put_edit-next in
    let v = near l.next _ l.out w.result w.new.out 39 (omega arith) w.ensures in
    let x = edit_put f.elements m.e s.at l.next w.result s.out.now l.out w.new.out l.invariant.3.1 l.invariant.3.2 v.0 v.1 in
    (omega arith, omega (arith, v.2), w.auto.out ∙ l.invariant.2, (turn _ _ _ f m.e _ q, x.0, x.1))

pub returns : goal.returns
unfolding edits_on
returns c es end e =
    let s = c.args in
    let l = c.loop-i in
    let f = l.invariant.3.0 in
    let o = over _ _ _ f l.place (edits_over newest_form s.file.now s.list.count l.i l.place (omega arith)) in
    same_edits (λ (fs : List Edit). (l.next ≡ s.at + length (list_bytes fs)) × (l.out ≡ put s.at (list_bytes fs) s.out.now)) _ f.elements es l.place end o e (l.invariant.3.1, l.invariant.3.2)
