-- The parts of a timetable file as the functions write them, entry by entry and row by row; proofs/TimetableLaws.antt
-- says that they are the numbers of timetable TimetableFile. Assumes nothing.
use Rattle.std.specs.Prelude.{ℕ}
use mathlib.Core.List.{List, ◌∷◌, ◌++◌, flat_map}
use Rattle.network.specs.Networks.{station_rows}
use Rattle.timetable.specs.Tables.{Entry, Table}
use Rattle.timetable.specs.Machine.{Timetable}
use Rattle.timetable.specs.Count.{visit_count, relation_count}
use Rattle.timetable.specs.EditsFile.{station_relation_numbers}
use Rattle.timetable.specs.FileForms.{newest_form}
use Rattle.timetable.specs.TimetableFile.{visit_numbers}
use Rattle.timetable_writing.specs.Types.{Station, Relation, StationRow, Network}

-- an entry

-- "s, t, track, arrival, status, departure, status, in-link, out-link", the mark after the track
unfoldable pub entry_numbers : Station → Entry → List ℕ
entry_numbers s e = visit_numbers newest_form (record { station = s; train = e.train; visit = e.visit })

-- "each with its station before it"
unfoldable pub relation_row : Station → Relation → List ℕ
relation_row s r = station_relation_numbers (record { station = s; relation = r })

-- a station

unfoldable pub visits_here : Station → Table → List ℕ
visits_here s tab = flat_map (entry_numbers s) tab.visits

unfoldable pub relations_here : Station → Table → List ℕ
relations_here s tab = flat_map (relation_row s) tab.relations

-- the file

-- what the stations of the rows have, one behind the other
unfoldable pub of_rows : Timetable → (Station → Table → List ℕ) → List StationRow → List ℕ
of_rows m f rows = flat_map (λ r. f r.station (m r.station)) rows

module _ (n : Network) (m : Timetable) where
  unfoldable pub visit_part : List ℕ
  visit_part = of_rows m visits_here (station_rows n)

  unfoldable pub relation_part : List ℕ
  relation_part = of_rows m relations_here (station_rows n)

  unfoldable pub file_rows : List ℕ
  file_rows = visit_count n m ∷ (visit_part ++ (relation_count n m ∷ relation_part))

-- The key ring of this module: `unfolding opened` opens every definition above.
unfoldable pub opened : Unit {0}
unfolding entry_numbers relation_row visits_here relations_here of_rows visit_part relation_part file_rows
opened = tt
