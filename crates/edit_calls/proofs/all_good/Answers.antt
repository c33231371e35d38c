-- `edit_calls::all_good` meets its contract: the network's test and the sheets'. Assumes nothing.
use borrow.Author.Tests.{ne_eqb}
use Rattle.timetable.proofs.OutputLaws.{number_there}
use Rattle.edit_calls.specs.Lists.{known_good}
use Rattle.edit_calls.proofs.all_good.Goals as goal

pub returns-in-Ok : goal.returns-in-Ok
unfolding known_good
returns-in-Ok c = rw (← c.in-Ok.ensures) c.good_division.ensures

pub returns-in-Err : goal.returns-in-Err
unfolding known_good
returns-in-Err c = let r = c.in-Err.field-0 in rw (← c.in-Err.ensures, ne_eqb _ 0 (number_there r))
