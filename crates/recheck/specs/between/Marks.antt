-- What an edit has redone at each station, as the code marks it: 2 at the edit's two stations, 1 at those joined to one
-- of them, 0 elsewhere. Assumes nothing.
use Rattle.std.specs.Prelude.{ℕ, false, ◌||◌, List, map}
use Rattle.base.specs.Choice.{◌if◌else◌}
use Rattle.railway.specs.Ranges.{same_station}
use Rattle.timetable.specs.Recheck.{joined}
use Rattle.sheet.specs.Sheets.{sixteen}
use Rattle.scope.specs.Redone.{all_redone}
use Rattle.recheck.specs.Types.{Station, Network, Shape, Local, Throughout, Marks}

unfoldable pub level_at : Network → Station → Station → Station → ℕ
level_at n home away s =
    2 if same_station s home || same_station s away
    else 1 if joined n home s || joined n away s
    else 0

unfoldable pub levels_of : Network → Station → Station → List ℕ
levels_of n home away = map (level_at n home away) sixteen

unfoldable pub marks_of : Network → Shape → Marks
marks_of n (Local home away adds removes) = record { everywhere = false; levels = levels_of n home away }
marks_of n (Throughout train) = all_redone

-- The key ring of this module: `unfolding opened` opens every definition above.
unfoldable pub opened : Unit {0}
unfolding level_at levels_of marks_of
opened = tt
