-- `relation_files::reading::trains` meets its contract. The loop's invariant: the trains read stand in the first
-- places, and the list is those and then what is left to read. Assumes nothing.
use Prim.Native.Nat.{ℕ, ◌-◌, ◌≤◌}
use mathlib.Core.Path.{◌≡◌}
use mathlib.Core.Bool.{Bool}
use mathlib.Core.List.{List}
use Rattle.timetable.specs.Formats.{Outcome, read}
use Rattle.timetable.specs.EditsFile.{trains_format}
use Rattle.fields.specs.between.Answers.{padded}
use Rattle.fields.proofs.ReadLaws.{SoFar}
use Rattle.relation_files.proofs.reading.trains.Given as goal

abbrev pub left_at : List ℕ → Bool → ℕ → ℕ → List ℕ → ℕ → Outcome (List ℕ)
left_at file rise k before floor place = read (trains_format rise k before floor) file place

abbrev pub invariant-loop-i : goal.invariant-loop-i
invariant-loop-i l =
    (l.i ≤ l.count) × ((s : SoFar (left_at l.file l.rise l.count 0 l.initial.left l.at) l.i (left_at l.file l.rise (l.count - l.i) l.before l.left l.place)) × (l.values ≡ padded 4 0 s.elements))
