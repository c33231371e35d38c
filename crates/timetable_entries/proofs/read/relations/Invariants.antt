-- `timetable_entries::read::relations` meets its contract: each turn is one law of the loops over entries. Assumes
-- nothing.
use Prim.Native.Nat.{◌≤◌}
use mathlib.Core.Path.{◌≡◌}
use lib.ListN.{length}
use Rattle.timetable.specs.EditsFile.{station_relation_entry}
use Rattle.timetable.specs.TimetableFile.{relation_floor}
use Rattle.fields.specs.between.Answers.{in_use}
use Rattle.timetable_entries.specs.Answers.{fault_told}
use Rattle.timetable_entries.specs.between.Entering.{relation_step}
use Rattle.timetable_entries.proofs.LoopLaws.{Reached}
use Rattle.timetable_entries.proofs.SheetEntries.{progress}
use Rattle.timetable_entries.proofs.read.relations.Given as goal

abbrev pub invariant-loop : goal.invariant-loop
invariant-loop l = record {
  counted : l.counter ≤ l.count;
  size : length l.sheet ≡ 8192;
  reached : Reached station_relation_entry relation_floor l.file (relation_step l.n) l.count l.at (progress l.initial.sheet (fault_told l.initial.first)) l.counter (in_use l.floor) l.place (progress l.sheet (fault_told l.first));
}
