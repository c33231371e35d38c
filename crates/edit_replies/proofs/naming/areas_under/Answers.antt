-- `edit_replies::naming::areas_under` meets its contract: the edit's file is refused, or the edit, or its areas are
-- named. Assumes nothing.
use mathlib.Core.Path.{refl}
use Rattle.std.proofs.lemmas.Result.{err_from_is_err_and}
use Rattle.replies.specs.Replies.{by_file}
use Rattle.edit_replies.specs.Replies.{named_under}
use Rattle.timetable.proofs.OutputLaws.{number_there}
use Rattle.edit_replies.proofs.NameLaws.{names_none, names_some}
use Rattle.edit_replies.proofs.naming.areas_under.Goals as goal

pub returns-in_err-e : goal.returns-in_err-e
unfolding named_under by_file
returns-in_err-e c =
    let p = err_from_is_err_and c.from_residual.result c.from_residual.ensures.1 in
    let r = c.in_err-e.ensures in
    rw (p.1, p.2, r.1, r.2) refl

pub returns-in_err-early_refusal : goal.returns-in_err-early_refusal
unfolding named_under by_file
returns-in_err-early_refusal c =
    let b = c.from_residual-in_err-early_refusal in
    let p = err_from_is_err_and b.result b.ensures.1 in
    let r = c.in_err-early_refusal in
    rw (p.1, p.2, c.in_ok-e.ensures) (names_none c.args.n.now c.in_ok-e.e _ r.ensures (number_there r.field-0.0))

pub returns : goal.returns
unfolding named_under by_file
returns c = rw c.in_ok-e.ensures (names_some c.args.n.now c.in_ok-e.e c.in_ok-early_refusal.ensures c.named_areas.result c.named_areas.ensures)
