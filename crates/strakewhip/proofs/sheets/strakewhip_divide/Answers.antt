-- `strakewhip::sheets::strakewhip_divide` meets its contract: it is stopped where it enters, or the call is reached. Assumes nothing.
use mathlib.Core.Path.{◌∙◌, ap}
use Rattle.replies.specs.Replies.{plain}
use Rattle.strakewhip.specs.Calls.{divide_reply, divide_left}
use Rattle.strakewhip.proofs.FileLaws.{stopped, reached, both_tested, one_tested}
use Rattle.strakewhip.proofs.sheets.strakewhip_divide.Goals as goal
use Rattle.strakewhip.proofs.sheets.strakewhip_divide.Goals.{then-is_sheet, else-is_sheet}

pub returns-in-Ok : goal.returns-in-Ok
unfolding divide_reply divide_left
returns-in-Ok c =
    let x = c.divide.ensures in
    reached _ _ _ _ _ _ _ (elim c.if-is_sheet.branch [
      | then-is_sheet w ↦ both_tested _ _ _ _ c.is_sheet.ensures w.if-is_sheet.true _ w.is_division.ensures w.entered-is
      | else-is_sheet w ↦ one_tested _ _ _ _ c.is_sheet.ensures w.if-is_sheet.false w.entered-is
    ]) c.entered.ensures _ c.in-Ok.is _ _ (c.told.ensures ∙ ap plain x.0) x.1

pub returns-in-Err : goal.returns-in-Err
unfolding divide_reply divide_left
returns-in-Err c = stopped _ _ _ _ _ _ _ (elim c.if-is_sheet.branch [
  | then-is_sheet w ↦ both_tested _ _ _ _ c.is_sheet.ensures w.if-is_sheet.true _ w.is_division.ensures w.entered-is
  | else-is_sheet w ↦ one_tested _ _ _ _ c.is_sheet.ensures w.if-is_sheet.false w.entered-is
]) c.entered.ensures _ c.in-Err.is
