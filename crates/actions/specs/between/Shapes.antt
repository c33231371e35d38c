-- What an edit says of itself, whatever the tables: its two stations or all, and the visits that it adds and removes.
-- Assumes nothing.
use Rattle.std.specs.Prelude.{Bool, true, ◌||◌}
use Rattle.railway.specs.Ranges.{same_station}
use Rattle.timetable.specs.Machine.{Meaning, local, throughout}
use Rattle.actions.specs.Types.{Station, Shape, Local, Throughout}

unfoldable pub shape_of : Meaning → Shape
shape_of (local a) = Local a.home a.away a.adds a.removes
shape_of (throughout t) = Throughout t

-- the station is one of those that the edit names, where its network knows it
unfoldable pub touches : Meaning → Station → Bool
touches (local a) k = same_station k a.home || same_station k a.away
touches (throughout t) k = true

-- the same, of a shape
unfoldable pub shape_touches : Shape → Station → Bool
shape_touches (Local home away adds removes) k = same_station k home || same_station k away
shape_touches (Throughout t) k = true

-- The key ring of this module: `unfolding opened` opens every definition above.
unfoldable pub opened : Unit {0}
unfolding shape_of touches shape_touches
opened = tt
