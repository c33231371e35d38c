-- `edit_replies::changes::removed_on_division` meets its contract: the edit's file is refused, or the call says it. Assumes nothing.
use mathlib.Core.Path.{refl, ap}
use Rattle.std.proofs.lemmas.Result.{err_from_is_err_and}
use Rattle.replies.specs.Replies.{of_answer, by_file}
use Rattle.edit_replies.specs.Replies.{one_reply, one_left}
use Rattle.edit_replies.proofs.changes.removed_on_division.Goals as goal

pub returns-in_err-e : goal.returns-in_err-e
unfolding one_reply one_left by_file
returns-in_err-e c =
    let p = err_from_is_err_and c.from_residual.result c.from_residual.ensures.1 in
    let r = c.in_err-e.ensures in
    rw (p.1, p.2, r.1, r.2) (refl, refl)

pub returns-in_err-edit_division : goal.returns-in_err-edit_division
unfolding one_reply one_left by_file
returns-in_err-edit_division c =
    let b = c.from_residual-in_err-edit_division in
    let p = err_from_is_err_and b.result b.ensures.1 in
    let r = c.in_err-edit_division.ensures in
    rw (p.1, p.2, c.in_ok-e.ensures) (ap of_answer r.answer, r.after)

pub returns : goal.returns
unfolding one_reply one_left by_file
returns c =
    let r = c.in_ok-edit_division.ensures in
    rw c.in_ok-e.ensures (ap of_answer r.answer, r.after)
