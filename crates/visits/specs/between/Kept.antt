-- The parts of `alters` of timetable/specs/Visits.antt: the plan keeps the visit's arrival and track; it has another
-- departure than one that occurred. Assumes nothing.
use Rattle.std.specs.Prelude.{Bool, not, ◌&&◌}
use Rattle.railway.specs.Ranges.{same_minute, same_track}
use Rattle.railway.specs.declared.edit.Plan.{Plan}
use Rattle.railway.specs.declared.visit.Visit.{Visit}

abbrev pub keeps_arrival : Plan → Visit → Bool
keeps_arrival p v = same_minute p.arrival v.arrival && same_track p.track v.track

abbrev pub alters_departure : Plan → Visit → Bool
alters_departure p v = v.departed && not (same_minute p.departure v.departure)
