-- `edit_replies::rechecks::length_on_area` meets its contract: the edit's file is refused, or the call says it. Assumes nothing.
use mathlib.Core.Path.{refl, ◌∙◌, ap}
use Rattle.std.proofs.lemmas.Result.{err_from_is_err_and}
use Rattle.replies.specs.Replies.{of_reply, by_file}
use Rattle.edit_replies.specs.Rechecks.{area_reply, area_left}
use Rattle.edit_replies.proofs.OutputTold.{error_told, length_told}
use Rattle.edit_replies.proofs.rechecks.length_on_area.Goals as goal

pub returns-in_err-e : goal.returns-in_err-e
unfolding area_reply area_left by_file
returns-in_err-e c =
    let p = err_from_is_err_and c.from_residual.result c.from_residual.ensures.1 in
    let r = c.in_err-e.ensures in
    rw (p.1, p.2, r.1, r.2) (refl, refl)

pub returns-in_err-recheck_area : goal.returns-in_err-recheck_area
unfolding area_reply area_left by_file
returns-in_err-recheck_area c =
    let b = c.from_residual-in_err-recheck_area in
    let p = err_from_is_err_and b.result b.ensures.1 in
    let r = c.in_err-recheck_area in
    rw (p.1, p.2, c.in_ok-e.ensures) (error_told r.field-0.0 ∙ ap of_reply r.ensures.0, r.ensures.1)

pub returns : goal.returns
unfolding area_reply area_left by_file
returns c =
    let r = c.in_ok-recheck_area in
    rw c.in_ok-e.ensures (length_told r.field-0 ∙ ap of_reply r.ensures.0, r.ensures.1)
