-- `strakewhip::asking::strakewhip_network` meets its contract: the file is refused, or read. Assumes nothing.
use Rattle.replies.specs.Replies.{of_outcome}
use Rattle.strakewhip.specs.Calls.{network_reply}
use Rattle.strakewhip.proofs.asking.strakewhip_network.Goals as goal

pub returns-in-Ok : goal.returns-in-Ok
unfolding network_reply of_outcome
returns-in-Ok c = rw (← c.in-Ok.ensures) c.sized.ensures

pub returns-in-Err : goal.returns-in-Err
unfolding network_reply of_outcome
returns-in-Err c = rw (← c.in-Err.ensures) c.from.ensures
