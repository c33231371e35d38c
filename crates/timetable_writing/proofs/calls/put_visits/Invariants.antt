-- `timetable_writing::calls::put_visits` meets its contract: what all entries would write is what those from i on still
-- write, from the place reached. Assumes nothing.
use Rattle.std.proofs.Common.{take, ◌*◌}
use mathlib.Core.List.{flat_map}
use Rattle.page.specs.between.Changes.{table_in}
use Rattle.fields.specs.between.Putting.{Places}
use Rattle.timetable_writing.specs.between.Parts.{entry_numbers}
use Rattle.timetable_writing.proofs.calls.put_visits.Given as goal

abbrev pub invariant-loop-i : goal.invariant-loop-i
invariant-loop-i l = Places l.at (flat_map (entry_numbers l.s) (take l.i (table_in l.part).visits)) l.initial.out l.next l.out (108 * l.i)
