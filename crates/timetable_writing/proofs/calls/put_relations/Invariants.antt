-- `timetable_writing::calls::put_relations` meets its contract: what all relations would write is what those from i on
-- still write, from the place reached. Assumes nothing.
use Rattle.std.proofs.Common.{take, ◌*◌}
use mathlib.Core.List.{flat_map}
use Rattle.page.specs.between.Changes.{table_in}
use Rattle.fields.specs.between.Putting.{Places}
use Rattle.timetable_writing.specs.between.Parts.{relation_row}
use Rattle.timetable_writing.proofs.calls.put_relations.Given as goal

abbrev pub invariant-loop-i : goal.invariant-loop-i
invariant-loop-i l = Places l.at (flat_map (relation_row l.s) (take l.i (table_in l.part).relations)) l.initial.out l.next l.out (39 * l.i)
