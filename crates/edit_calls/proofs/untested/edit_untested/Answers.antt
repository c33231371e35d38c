-- `edit_calls::untested::edit_untested` meets its contract: what refuses the edit alone refuses the single call, and
-- past that the edit on pages is the single call. Assumes nothing.
use mathlib.Core.Path.{sym, ◌∙◌}
use Rattle.std.proofs.lemmas.Result.{err_from_is_err_and}
use Rattle.base.specs.RefusalNumbers.{number_of}
use Rattle.timetable.proofs.OutputLaws.{number_there}
use Rattle.edit_calls.proofs.KnownGood.{known_stopped, known_edit}
use Rattle.edit_calls.proofs.untested.edit_untested.Goals as goal

pub returns-in_err-refusal_under : goal.returns-in_err-refusal_under
returns-in_err-refusal_under c =
    let s = c.args in
    let r = c.in_err-refusal_under.field-0.0 in
    let p = err_from_is_err_and c.from_residual.result c.from_residual.ensures.1 in
    let x = known_stopped s.n.now s.division.now c.requires s.e (number_of r) c.in_err-refusal_under.ensures (number_there r) in
    (rw (p.1, p.2) x.0, x.1)

pub returns : goal.returns
returns c =
    let s = c.args in
    let r = c.edit_pages in
    let x = known_edit s.n.now s.division.now c.requires s.e (sym c.in_ok-refusal_under.ensures) in
    (r.ensures.answer ∙ x.0, r.ensures.after ∙ x.1)
