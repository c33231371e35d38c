-- `network_files::draft::stations` meets its contract. The loop's invariant: the rows read stand in the first places,
-- and the list is those rows and then what is left. Assumes nothing.
use Prim.Native.Nat.{ℕ, ◌-◌}
use mathlib.Core.Path.{◌≡◌}
use mathlib.Core.List.{List, [], ◌∷◌}
use Rattle.network.specs.Networks.{blank_station}
use Rattle.network.specs.declared.StationRow.{StationRow}
use Rattle.timetable.specs.Formats.{Outcome, read, entries}
use Rattle.timetable.specs.NetworkFile.{station_entry, station_floor}
use Rattle.fields.specs.between.Answers.{padded}
use Rattle.fields.proofs.ReadLaws.{SoFar}
use Rattle.network_files.proofs.draft.stations.Given as goal

abbrev pub left_at : List ℕ → ℕ → ℕ → ℕ → Outcome (List StationRow)
left_at file k before place = read (entries station_entry station_floor k (before ∷ [])) file place

abbrev pub invariant-loop-i : goal.invariant-loop-i
invariant-loop-i l = (s : SoFar (left_at l.file l.count 0 l.at) l.i (left_at l.file (l.count - l.i) l.before l.place)) × (l.rows ≡ padded 16 blank_station s.elements)
