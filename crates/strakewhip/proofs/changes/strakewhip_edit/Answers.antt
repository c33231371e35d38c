-- `strakewhip::changes::strakewhip_edit` meets its contract: it is stopped where it enters, or the call is reached. Assumes nothing.
use Rattle.strakewhip.specs.Calls.{edit_reply, edit_left}
use Rattle.strakewhip.proofs.FileLaws.{stopped, reached}
use Rattle.strakewhip.proofs.changes.strakewhip_edit.Goals as goal

pub returns-in-Ok : goal.returns-in-Ok
unfolding edit_reply edit_left
returns-in-Ok c =
    let x = c.one_on_division.ensures in
    reached _ _ _ _ _ _ _ c.is_division.ensures c.entered.ensures _ c.in-Ok.is _ _ x.0 x.1

pub returns-in-Err : goal.returns-in-Err
unfolding edit_reply edit_left
returns-in-Err c = stopped _ _ _ _ _ _ _ c.is_division.ensures c.entered.ensures _ c.in-Err.is
