-- `strakewhip::lists::strakewhip_area_findings` meets its contract: it is stopped where it enters, or the call is reached. Assumes nothing.
use mathlib.Core.Path.{◌∙◌, ap}
use Rattle.replies.specs.Replies.{of_reply}
use Rattle.strakewhip.specs.Calls.{area_reply, area_left}
use Rattle.strakewhip.proofs.FileLaws.{stopped, reached}
use Rattle.strakewhip.proofs.lists.strakewhip_area_findings.Goals as goal

pub returns-in-Ok : goal.returns-in-Ok
unfolding area_reply area_left
returns-in-Ok c =
    let x = c.area_findings.ensures in
    reached _ _ _ _ _ _ _ c.is_sheet.ensures c.entered.ensures _ c.in-Ok.is _ _ (c.of_result.ensures ∙ ap of_reply x.0) x.1

pub returns-in-Err : goal.returns-in-Err
unfolding area_reply area_left
returns-in-Err c = stopped _ _ _ _ _ _ _ c.is_sheet.ensures c.entered.ensures _ c.in-Err.is
