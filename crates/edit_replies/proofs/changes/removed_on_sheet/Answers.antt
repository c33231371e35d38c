-- `edit_replies::changes::removed_on_sheet` meets its contract: the edit's file is refused, or the call says it. Assumes nothing.
use mathlib.Core.Path.{refl, ap}
use Rattle.std.proofs.lemmas.Result.{err_from_is_err_and}
use Rattle.replies.specs.Replies.{of_answer, by_file}
use Rattle.edit_replies.specs.Replies.{sheet_one_reply, sheet_one_left}
use Rattle.edit_replies.proofs.changes.removed_on_sheet.Goals as goal

pub returns-in_err-e : goal.returns-in_err-e
unfolding sheet_one_reply sheet_one_left by_file
returns-in_err-e c =
    let p = err_from_is_err_and c.from_residual.result c.from_residual.ensures.1 in
    let r = c.in_err-e.ensures in
    rw (p.1, p.2, r.1, r.2) (refl, refl)

pub returns-in_err-edit_sheet : goal.returns-in_err-edit_sheet
unfolding sheet_one_reply sheet_one_left by_file
returns-in_err-edit_sheet c =
    let b = c.from_residual-in_err-edit_sheet in
    let p = err_from_is_err_and b.result b.ensures.1 in
    let r = c.in_err-edit_sheet.ensures in
    rw (p.1, p.2, c.in_ok-e.ensures) (ap of_answer r.answer, r.after)

pub returns : goal.returns
unfolding sheet_one_reply sheet_one_left by_file
returns c =
    let r = c.in_ok-edit_sheet.ensures in
    rw c.in_ok-e.ensures (ap of_answer r.answer, r.after)
