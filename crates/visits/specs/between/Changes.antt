-- One change of a visit that stands: what edits 2 to 8 make of it. Assumes nothing.
use Rattle.railway.specs.declared.visit.Visit.{Visit}
use Rattle.timetable.specs.Visits.{with_in, with_out, amended, arrived_at, departed_at}
use Rattle.visits.specs.declared.Change.{Change}

unfoldable pub change_by : Change → Visit → Visit
change_by (Change.In link) = with_in link
change_by (Change.Out link) = with_out link
change_by (Change.Amend p) = amended p
change_by (Change.Arrive time) = arrived_at time
change_by (Change.Depart time) = departed_at time

-- The key ring of this module: `unfolding opened` opens every definition above.
unfoldable pub opened : Unit {0}
unfolding change_by
opened = tt
