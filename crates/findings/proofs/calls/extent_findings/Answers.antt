-- `findings::calls::extent_findings` meets its contract: refused with what refuses the list, or the list is written. Assumes
-- nothing.
use Rattle.std.proofs.Common.{refl, sym, ◌∙◌, ap}
use Rattle.std.proofs.lemmas.Result.{err_from_is_err_and}
use Rattle.base.specs.RefusalNumbers.{refusal_number}
use Rattle.timetable.proofs.OutputLaws.{refused_with}
use Rattle.findings.specs.between.Extents.{extent_list, extent_refusal}
use Rattle.findings.proofs.ListCalls.{answers_as, extent_size, extent_numbers}
use Rattle.findings.proofs.calls.extent_findings.Goals as goal

pub returns-in_err-extent_refusal : goal.returns-in_err-extent_refusal
returns-in_err-extent_refusal c =
    let s = c.args in
    let p = err_from_is_err_and c.from_residual.result c.from_residual.ensures.1 in
    let xs = extent_list s.n.now s.extent s.sheet.now in
    rw (p.1, p.2) (answers_as _ (extent_refusal s.n.now s.extent s.sheet.now) xs xs s.out.now s.out.now _ c.in_err-extent_refusal.ensures refl (refused_with xs s.out.now c.in_err-extent_refusal.field-0.0))

pub write_list-requires : goal.write_list-requires
write_list-requires c =
    let s = c.args in
    extent_size s.n.now s.extent s.sheet.now (sym c.extent_refusal.ensures ∙ ap refusal_number c.in_ok-extent_refusal.was)

pub returns : goal.returns
returns c =
    let s = c.args in
    let none = sym c.extent_refusal.ensures ∙ ap refusal_number c.in_ok-extent_refusal.was in
    answers_as 0 (extent_refusal s.n.now s.extent s.sheet.now) _ (extent_list s.n.now s.extent s.sheet.now) s.out.now _ _ (sym none) (extent_numbers s.n.now s.extent s.sheet.now)
    (rw c.scope_of.ensures at c.write_list.ensures)
