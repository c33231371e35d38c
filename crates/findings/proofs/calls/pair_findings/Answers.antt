-- `findings::calls::pair_findings` meets its contract: refused with what refuses the list, or the list of the two sheets put together is written. Assumes
-- nothing.
use Rattle.std.proofs.Common.{refl, sym, ◌∙◌, ap}
use Rattle.std.proofs.lemmas.Result.{err_from_is_err_and}
use Rattle.base.specs.RefusalNumbers.{refusal_number}
use Rattle.timetable.proofs.OutputLaws.{refused_with}
use Rattle.findings.specs.Lists.{two_list, two_list_refusal}
use Rattle.findings.proofs.ListCalls.{answers_as, two_passed, two-numbers}
use Rattle.findings.proofs.calls.pair_findings.Goals as goal

pub returns-in_err-pair_refusal : goal.returns-in_err-pair_refusal
returns-in_err-pair_refusal c =
    let s = c.args in
    let p = err_from_is_err_and c.from_residual.result c.from_residual.ensures.1 in
    let xs = two_list s.n.now s.first.now s.second.now s.a s.b in
    rw (p.1, p.2) (answers_as _ (two_list_refusal s.n.now s.first.now s.second.now s.a s.b) xs xs s.out.now s.out.now _ c.in_err-pair_refusal.ensures refl (refused_with xs s.out.now c.in_err-pair_refusal.field-0.0))

pub join-requires : goal.join-requires
join-requires c =
    let s = c.args in
    let p = two_passed s.n.now s.first.now s.second.now s.a s.b (sym c.pair_refusal.ensures ∙ ap refusal_number c.in_ok-pair_refusal.was) in
    (refl, p.0, p.1)

pub returns : goal.returns
returns c =
    let s = c.args in
    let none = sym c.pair_refusal.ensures ∙ ap refusal_number c.in_ok-pair_refusal.was in
    let p = two_passed s.n.now s.first.now s.second.now s.a s.b none in
    answers_as 0 (two_list_refusal s.n.now s.first.now s.second.now s.a s.b) _ (two_list s.n.now s.first.now s.second.now s.a s.b) s.out.now _ _ (sym none)
    (two-numbers s.n.now s.first.now s.second.now s.a s.b p.0 p.1 _ refl p.2)
    (rw c.join.ensures at c.write_list.ensures)
