-- Reports from the future. Document 02, W7: "Reports of arrival and departure now carry the present minute"; "A clock
-- that goes back is allowed, since each report is judged by its own minute." Assumes nothing.
use Rattle.std.specs.Prelude.{Bool, false, ltb}
use Rattle.timetable.specs.Types.{Report}
use Rattle.timetable.specs.Types.{Edit, Place, Prepend, Append, DeleteFirst, DeleteLast, Amend}
use Rattle.timetable.specs.Types.{ReportArrival, ReportDeparture, AddRelation, RemoveRelation, DeleteTrain}

-- "a report whose event time is later than the minute it carries"
unfoldable pub ahead : Report → Bool
ahead r = ltb r.present.0 r.time.0

unfoldable pub future : Edit → Bool
future (Place p) = false
future (Prepend x) = false
future (Append x) = false
future (DeleteFirst d) = false
future (DeleteLast d) = false
future (Amend p) = false
future (ReportArrival r) = ahead r
future (ReportDeparture r) = ahead r
future (AddRelation r) = false
future (RemoveRelation r) = false
future (DeleteTrain c) = false

-- The key ring of this module: `unfolding opened` opens every definition above.
unfoldable pub opened : Unit {0}
unfolding ahead future
opened = tt
