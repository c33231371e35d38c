-- Which sheets of a division are to be good, as the code tests them: of the areas of the stations that an edit names.
-- Assumes nothing.
use Rattle.std.specs.Prelude.{ℕ, Bool, true, false, not, ◌&&◌, ◌||◌, List, Option, None, Some, eqb, length}
use Rattle.base.specs.Choice.{◌if◌else◌}
use Rattle.std.specs.Prelude.{if◌then◌else◌}
use Rattle.base.specs.Lists.{any, every}
use Rattle.network.specs.Networks.{area_in, area_of, station_row, stations_of, network_refusal}
use Rattle.timetable.specs.Groups.{six}
use Rattle.timetable.specs.Machine.{meaning}
use Rattle.timetable.specs.Refusals.{or_else}
use Rattle.actions.specs.declared.shape.Shape.{Shape}
use Rattle.actions.specs.between.Shapes.{touches}
use Rattle.sheet.specs.Sheets.{sheet_at}
use Rattle.sheet.specs.declared.test.Extent.{Extent}
use Rattle.sheet.specs.between.Passes.{sheet_passes}
use Rattle.named_sheets.specs.Types.{Station, Area, Edit, Network, Reach, Areas, Everywhere, Local, Throughout}

-- an area of a station that the edit names
unfoldable pub touches_at : Network → Edit → ℕ → Station → Bool
touches_at n e a s = eqb a (area_of n s) && touches (meaning e) s

unfoldable pub touches_area : Network → Edit → ℕ → Bool
touches_area n e a = any (touches_at n e a) (stations_of n)

-- where an edit of this shape works: at every station, or in the areas of its two stations, where they are listed
unfoldable pub reach_of : Network → Shape → Reach
reach_of n (Local home away adds removes) = Areas (area_in (station_row n home)) (area_in (station_row n away))
reach_of n (Throughout t) = Everywhere

-- the area that was found is this one
abbrev pub found_in : ℕ → Option Area → Bool
found_in a (Some b) = eqb b.0 a
found_in a None = false

-- a listed station is in the area
unfoldable pub has_station : Network → ℕ → Bool
has_station n a = any (λ s. eqb a (area_of n s)) (stations_of n)

-- a station of the area is reached
unfoldable pub reaches_area : Network → Reach → ℕ → Bool
reaches_area n (Areas home away) a = found_in a home || found_in a away
reaches_area n Everywhere a = has_station n a

-- the sheet of an area is good, where the area is reached, or where the edit names it
unfoldable pub reach_passes : Network → Reach → ℕ → List ℕ → Bool
reach_passes n x a part = if reaches_area n x a then sheet_passes n (Extent.Of (record { 0 = a })) part else true

unfoldable pub area_passes : Network → Edit → ℕ → List ℕ → Bool
area_passes n e a part = if touches_area n e a then sheet_passes n (Extent.Of (record { 0 = a })) part else true

unfoldable pub named_pass : Network → Edit → List ℕ → Bool
named_pass n e division = eqb (length division) 49152 && every (λ a. area_passes n e a (sheet_at division a)) six

-- what refuses the network, or else 6 for a sheet of an area that the edit names
unfoldable pub named_refusal : Network → Edit → List ℕ → ℕ
named_refusal n e division = or_else (network_refusal n) (6 if not (named_pass n e division) else 0)

-- The key ring of this module: `unfolding opened` opens every definition above.
unfoldable pub opened : Unit {0}
unfolding touches_at touches_area reach_of has_station reaches_area reach_passes area_passes named_pass named_refusal
opened = tt
