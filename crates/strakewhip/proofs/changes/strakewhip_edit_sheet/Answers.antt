-- `strakewhip::changes::strakewhip_edit_sheet` meets its contract: it is stopped where it enters, or the call is reached. Assumes nothing.
use Rattle.strakewhip.specs.Calls.{sheet_edit_reply, sheet_edit_left}
use Rattle.strakewhip.proofs.FileLaws.{stopped, reached}
use Rattle.strakewhip.proofs.changes.strakewhip_edit_sheet.Goals as goal

pub returns-in-Ok : goal.returns-in-Ok
unfolding sheet_edit_reply sheet_edit_left
returns-in-Ok c =
    let x = c.one_on_sheet.ensures in
    reached _ _ _ _ _ _ _ c.is_sheet.ensures c.entered.ensures _ c.in-Ok.is _ _ x.0 x.1

pub returns-in-Err : goal.returns-in-Err
unfolding sheet_edit_reply sheet_edit_left
returns-in-Err c = stopped _ _ _ _ _ _ _ c.is_sheet.ensures c.entered.ensures _ c.in-Err.is
