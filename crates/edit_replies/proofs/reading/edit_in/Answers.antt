-- `edit_replies::reading::edit_in` meets its contract: the outcome of reading, in the second file. Assumes nothing.
use mathlib.Core.Path.{refl, sym}
use Rattle.edit_replies.proofs.reading.edit_in.Goals as goal

pub returns-in-Ok : goal.returns-in-Ok
returns-in-Ok c = sym c.in-Ok.ensures

pub returns-in-Err : goal.returns-in-Err
returns-in-Err c = (c.in-Err.error, refl, sym c.in-Err.ensures)
