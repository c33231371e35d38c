-- `strakewhip::rechecks::strakewhip_recheck_area` meets its contract: it is stopped where it enters, or the call is reached. Assumes nothing.
use Rattle.strakewhip.specs.Calls.{recheck_area_told, recheck_area_left}
use Rattle.strakewhip.proofs.FileLaws.{stopped, reached}
use Rattle.strakewhip.proofs.rechecks.strakewhip_recheck_area.Goals as goal

pub returns-in-Ok : goal.returns-in-Ok
unfolding recheck_area_told recheck_area_left
returns-in-Ok c =
    let x = c.on_area.ensures in
    reached _ _ _ _ _ _ _ c.is_sheet.ensures c.entered.ensures _ c.in-Ok.is _ _ x.0 x.1

pub returns-in-Err : goal.returns-in-Err
unfolding recheck_area_told recheck_area_left
returns-in-Err c = stopped _ _ _ _ _ _ _ c.is_sheet.ensures c.entered.ensures _ c.in-Err.is
