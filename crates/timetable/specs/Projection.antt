-- The expected times of a train from one visit on. Document 01, "Projection and tally". Assumes nothing.
use Rattle.std.specs.Prelude.{ℕ, zero, suc, ◌+◌, max, List, [], ◌∷◌}
use Rattle.std.specs.Prelude.{None, Some}
use Rattle.std.proofs.Math.IntN.{sub_ℕ}
use Rattle.std.specs.Prelude.{if◌then◌else◌}
use Rattle.timetable.specs.Types.{Station, Train, OutLink, Visit, Row}
use Rattle.timetable.specs.Visits.{arr, dep, stops_anyway}
use Rattle.timetable.specs.Tables.{visit_of}
use Rattle.timetable.specs.Machine.{Timetable}
use Rattle.timetable.specs.Rules.{out_answered}

-- "An occurred time stands (the first arrival too)."
unfoldable pub expected_arrival : Visit → ℕ → ℕ
expected_arrival v a = if v.arrived then arr v else a

-- "Otherwise departure is the arrival if the train doesn't stop, else the larger of planned departure and arrival + 1";
-- document 02, W6: "where only the mark makes a stop, projected departure is the larger of planned departure and
-- arrival"
unfoldable pub expected_departure : Visit → ℕ → ℕ
expected_departure v a =
    if v.departed then dep v
    else if stops_anyway v then max (dep v) (a + 1)
    else if v.marked then max (dep v) a
    else a

-- "Each visit's row is station, expected arrival, expected departure and lateness: expected less standing arrival,
-- negative if early."
unfoldable pub row : Station → Visit → ℕ → Row
row s v a = record { station = s; arrival = a; departure = expected_departure v a; lateness = sub_ℕ a (arr v) }

-- from a departure on: "the next arrival from that departure, along answered links"; "the next arrival adds the run";
-- `go_on` gives the rows from an arrival on
unfoldable pub from_departure : (Station → ℕ → List Row) → Timetable → Station → Train → Visit → ℕ → List Row
from_departure go_on m s t v d =
    elim v.outward [
      | OutLink.Nothing ↦ []
      | OutLink.To o ↦ if out_answered s t o (m o.station) then go_on o.station (d + o.run) else []
    ]

-- from an arrival on, at most k visits: "expected departure from expected arrival"
unfoldable pub from_arrival : ℕ → Timetable → Train → Station → ℕ → List Row
from_arrival zero m t s a = []
from_arrival (suc k) m t s a =
    elim (visit_of t (m s)) [
      | None ↦ []
      | Some v ↦
          row s v (expected_arrival v a)
          ∷ from_departure (from_arrival k m t) m s t v (expected_departure v (expected_arrival v a))
    ]

-- "at most 16 visits"
unfoldable pub projection : Timetable → Train → Station → ℕ → List Row
projection m t s a = from_arrival 16 m t s a

-- The key ring of this module: `unfolding opened` opens every definition above.
unfoldable pub opened : Unit {0}
unfolding expected_arrival expected_departure row from_departure from_arrival projection
opened = tt
