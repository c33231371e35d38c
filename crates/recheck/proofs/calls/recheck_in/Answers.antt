-- `recheck::calls::recheck_in` meets its contract: refused as its tests say, or the list that is written is the update.
-- Assumes nothing.
use Rattle.std.proofs.Common.{refl, sym, ◌∙◌, ap}
use Rattle.std.proofs.lemmas.Result.{err_from_is_err_and}
use Rattle.base.specs.RefusalNumbers.{refusal_number}
use Rattle.timetable.proofs.OutputLaws.{refused_with}
use Rattle.findings.proofs.ListCalls.{answers_as}
use Rattle.recheck.specs.between.Extents.{extent_refusal, extent_list}
use Rattle.recheck.proofs.CallLaws.{extent_passed, extent_updated}
use Rattle.recheck.proofs.calls.recheck_in.Goals as goal

pub returns-in_err-refusal_of : goal.returns-in_err-refusal_of
returns-in_err-refusal_of c =
    let s = c.args in
    let p = err_from_is_err_and c.from_residual.result c.from_residual.ensures.1 in
    let xs = extent_list s.n.now s.e s.extent s.sheet.now s.list.now in
    rw (p.1, p.2)
    (answers_as _ (extent_refusal s.n.now s.e s.extent s.sheet.now s.list.now) xs xs s.out.now s.out.now _ c.in_err-refusal_of.ensures refl (refused_with xs s.out.now c.in_err-refusal_of.field-0.0))

pub write_update-requires : goal.write_update-requires
write_update-requires c =
    let s = c.args in
    let p = extent_passed s.n.now s.e s.extent s.sheet.now s.list.now (sym c.refusal_of.ensures ∙ ap refusal_number c.in_ok-refusal_of.was) in
    (p.0, p.2)

pub returns : goal.returns
returns c =
    let s = c.args in
    let none = sym c.refusal_of.ensures ∙ ap refusal_number c.in_ok-refusal_of.was in
    answers_as 0 (extent_refusal s.n.now s.e s.extent s.sheet.now s.list.now) _ (extent_list s.n.now s.e s.extent s.sheet.now s.list.now) s.out.now _ _ (sym none)
    (extent_updated s.n.now s.e s.extent s.sheet.now s.list.now none)
    (rw (c.scope_of.ensures, c.marks_of.ensures) at c.write_update.ensures)
