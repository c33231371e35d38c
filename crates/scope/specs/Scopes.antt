-- Which findings a list takes, by the station of a finding and its far station: those of a whole timetable, of an area,
-- of two areas. They are the tests `inside` and `between` of timetable/specs/Findings.antt (crate findings,
-- proofs/ListsBuilt.antt). Assumes nothing.
use Rattle.std.specs.Prelude.{Bool, true, ◌&&◌, ◌||◌}
use Rattle.network.specs.Networks.{area_of}
use Rattle.railway.specs.declared.sorts.Station.{Station}
use Rattle.network.specs.declared.Network.{Network}
use Rattle.timetable.specs.Groups.{in_group}
use Rattle.scope.specs.declared.Scope.{Scope}

unfoldable pub takes : Network → Scope → Station → Station → Bool
takes n Scope.Whole s p = true
takes n (Scope.Within a) s p = in_group (area_of n) a.0 s && in_group (area_of n) a.0 p
takes n (Scope.Between a b) s p =
    (in_group (area_of n) a.0 s && in_group (area_of n) b.0 p) || (in_group (area_of n) b.0 s && in_group (area_of n) a.0 p)

-- The key ring of this module: `unfolding opened` opens every definition above.
unfoldable pub opened : Unit {0}
unfolding takes
opened = tt
