-- `put` of a station meets its contract: a row of its numbers is put. Assumes nothing.
use native.Mathlib.Omega.{arith}
use Rattle.timetable.specs.NetworkFile.{station_numbers}
use Rattle.fields.proofs.NumbersPut.{near}
use Rattle.network_writing.proofs.writing.StationRowWritten.put.Goals as goal

pub returns : goal.returns
unfolding station_numbers
returns c = rw (c.from.ensures, c.from-2.ensures, c.from-3.ensures) at (near _ _ _ _ _ 39 (omega arith) c.put_row.ensures)
