-- `strakewhip::sheets::strakewhip_merge` meets its contract: it is stopped where it enters, or the call is reached. Assumes nothing.
use mathlib.Core.Path.{◌∙◌, ap}
use Rattle.replies.specs.Replies.{plain}
use Rattle.strakewhip.specs.Calls.{merge_reply, merge_left}
use Rattle.strakewhip.proofs.FileLaws.{stopped, reached, both_tested, one_tested}
use Rattle.strakewhip.proofs.sheets.strakewhip_merge.Goals as goal
use Rattle.strakewhip.proofs.sheets.strakewhip_merge.Goals.{then-is_division, else-is_division}

pub returns-in-Ok : goal.returns-in-Ok
unfolding merge_reply merge_left
returns-in-Ok c =
    let x = c.merge.ensures in
    reached _ _ _ _ _ _ _ (elim c.if-is_division.branch [
      | then-is_division w ↦ both_tested _ _ _ _ c.is_division.ensures w.if-is_division.true _ w.is_sheet.ensures w.entered-is
      | else-is_division w ↦ one_tested _ _ _ _ c.is_division.ensures w.if-is_division.false w.entered-is
    ]) c.entered.ensures _ c.in-Ok.is _ _ (c.told.ensures ∙ ap plain x.0) x.1

pub returns-in-Err : goal.returns-in-Err
unfolding merge_reply merge_left
returns-in-Err c = stopped _ _ _ _ _ _ _ (elim c.if-is_division.branch [
  | then-is_division w ↦ both_tested _ _ _ _ c.is_division.ensures w.if-is_division.true _ w.is_sheet.ensures w.entered-is
  | else-is_division w ↦ one_tested _ _ _ _ c.is_division.ensures w.if-is_division.false w.entered-is
]) c.entered.ensures _ c.in-Err.is
