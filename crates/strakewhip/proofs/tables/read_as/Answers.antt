-- `strakewhip::tables::read_as` meets its contract: it is stopped where it enters, or the call is reached. Assumes nothing.
use mathlib.Core.Path.{◌∙◌, ap}
use Rattle.replies.specs.Replies.{of_outcome}
use Rattle.strakewhip.specs.Calls.{read_reply, read_left}
use Rattle.strakewhip.proofs.FileLaws.{stopped, reached}
use Rattle.strakewhip.proofs.tables.read_as.Goals as goal

pub returns-in-Ok : goal.returns-in-Ok
unfolding read_reply read_left
returns-in-Ok c =
    let x = c.read_timetable_as.ensures in
    reached _ _ _ _ _ _ _ c.is_sheet.ensures c.entered.ensures _ c.in-Ok.is _ _ (c.of_read.ensures ∙ ap (of_outcome 2) x.0) x.1

pub returns-in-Err : goal.returns-in-Err
unfolding read_reply read_left
returns-in-Err c = stopped _ _ _ _ _ _ _ c.is_sheet.ensures c.entered.ensures _ c.in-Err.is
