-- `put` of a closure meets its contract: a row of its numbers is put. Assumes nothing.
use native.Mathlib.Omega.{arith}
use Rattle.timetable.specs.NetworkFile.{closure_numbers}
use Rattle.fields.proofs.NumbersPut.{near}
use Rattle.network_writing.proofs.writing.ClosureWritten.put.Goals as goal

pub returns : goal.returns
unfolding closure_numbers
returns c = rw c.from.ensures at (near _ _ _ _ _ 39 (omega arith) c.put_row.ensures)
