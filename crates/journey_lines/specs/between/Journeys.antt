-- What is put of the projections of a sheet: their lines, and none where the sheet's list of findings is refused; and
-- which numbers are small. Assumes nothing.
use Rattle.std.specs.Prelude.{ℕ, Bool, List, [], eqb, leb, ℤ}
use Rattle.std.specs.Int.Signed.{mag}
use Rattle.std.specs.Prelude.{if◌then◌else◌}
use Rattle.sheet.specs.Sheets.{decode_sheet}
use Rattle.findings.specs.Lists.{sheet_list_refusal}
use Rattle.listings.specs.Inspect.{journeys_text}
use Rattle.journey_lines.specs.Types.{Network}

unfoldable pub journey_lines : Network → List ℕ → List ℕ
journey_lines n sheet = if eqb (sheet_list_refusal n sheet) 0 then journeys_text n (decode_sheet sheet) else []

-- a number of at most ten thousand, whatever its sign: what the machine keeps
unfoldable pub small : ℤ → Bool
small z = leb (mag z) 10000

-- The key ring of this module: `unfolding opened` opens every definition above.
unfoldable pub opened : Unit {0}
unfolding journey_lines small
opened = tt
