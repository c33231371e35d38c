-- `network_files::draft::blank_network` meets its contract: every row is blank. Assumes nothing.
use Rattle.timetable.specs.NetworkFile.{network_with, blank_network}
use Rattle.network_files.proofs.draft.blank_network.Goals as goal

pub returns : goal.returns
unfolding blank_network network_with
returns c = rw (c.empty_station.ensures, c.empty_line.ensures, c.empty_closure.ensures)
