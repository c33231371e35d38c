-- `timetable_entries::read::visits` meets its contract: each turn is one law of the loops over entries. Assumes
-- nothing.
use Prim.Native.Nat.{◌≤◌}
use mathlib.Core.Path.{◌≡◌}
use mathlib.Core.List.{[], ◌∷◌}
use lib.ListN.{length}
use Rattle.timetable.specs.TimetableFile.{visit_entry, visit_floor}
use Rattle.timetable_entries.specs.Answers.{fault_told}
use Rattle.timetable_entries.specs.between.Entering.{no_fault, visit_step}
use Rattle.timetable_entries.proofs.LoopLaws.{Reached}
use Rattle.timetable_entries.proofs.SheetEntries.{progress}
use Rattle.timetable_entries.proofs.read.visits.Given as goal

abbrev pub invariant-loop : goal.invariant-loop
invariant-loop l = record {
  counted : l.counter ≤ l.count;
  size : length l.sheet ≡ 8192;
  reached : Reached (visit_entry l.form) visit_floor l.file (visit_step l.n) l.count l.at (progress l.initial.sheet no_fault) l.counter (l.station.0 ∷ l.train.0 ∷ []) l.place (progress l.sheet (fault_told l.first));
}
