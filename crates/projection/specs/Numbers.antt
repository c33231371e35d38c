-- The rows of a projection as numbers in a lent buffer, and the rows from an arrival or a departure on, as numbers of
-- what a sheet holds. Assumes nothing.
use Rattle.std.specs.Prelude.{ℕ, ℤ, pos}
use mathlib.Core.List.{List, [], ◌∷◌, flat_map}
use Rattle.timetable.specs.Projection.{from_departure, from_arrival}
use Rattle.sheet.specs.Sheets.{decode_sheet}
use Rattle.projection.specs.Types.{Station, Train, Visit, Row}

-- "Each visit's row is station, expected arrival, expected departure and lateness": four signed numbers
unfoldable pub row_numbers : Row → List ℤ
row_numbers r = pos r.station.0 ∷ pos r.arrival ∷ pos r.departure ∷ r.lateness ∷ []

unfoldable pub rows_numbers : List Row → List ℤ
rows_numbers = flat_map row_numbers

-- of what a sheet holds, at most k visits
unfoldable pub arrival_numbers : ℕ → List ℕ → Train → Station → ℕ → List ℤ
arrival_numbers k sheet t s a = rows_numbers (from_arrival k (decode_sheet sheet) t s a)

unfoldable pub departure_numbers : ℕ → List ℕ → Train → Station → Visit → ℕ → List ℤ
departure_numbers k sheet t s v d = rows_numbers (from_departure (from_arrival k (decode_sheet sheet) t) (decode_sheet sheet) s t v d)

-- The key ring of this module: `unfolding opened` opens every definition above.
unfoldable pub opened : Unit {0}
unfolding flat_map row_numbers rows_numbers arrival_numbers departure_numbers
opened = tt
