-- The calls of `inspect`: reading the input into a lent sheet, and each part of what is printed, from that sheet. The
-- laws in proofs/InputPrinted.antt say that these parts are those of listings/specs/Inspect.antt. Assumes nothing.
use Rattle.std.specs.Prelude.{ℕ, List, [], ltb, length, get_or}
use Rattle.base.specs.Choice.{◌if◌else◌}
use Rattle.std.specs.Prelude.{if◌then◌else◌}
use Rattle.timetable.specs.Formats.{Outcome, refused}
use Rattle.timetable.specs.InspectFile.{Inspection}
use Rattle.sheet.specs.Sheets.{decode_sheet}
use Rattle.findings.specs.Lists.{sheet_list_refusal}
use Rattle.timetable_files.specs.Inspect.{InspectTold, inspect_outcome, inspect_read, inspect_sheet}
use Rattle.listings.specs.Inspect.{parts_of}
use Rattle.inspect_lines.specs.Types.{Network}

-- "one file of at most 16,384 bytes, else 5"
unfoldable pub input_outcome : List ℕ → List ℕ → Outcome Inspection
input_outcome input sheet = if ltb 16384 (length input) then refused 5 0 else inspect_outcome input sheet

unfoldable pub input_answer : List ℕ → List ℕ → InspectTold
input_answer input sheet = inspect_read (input_outcome input sheet)

unfoldable pub input_after : List ℕ → List ℕ → List ℕ
input_after input sheet = inspect_sheet (input_outcome input sheet) sheet

-- what refuses a part: 5 for a timetable that is longer than any input, then what refuses the sheet's list
unfoldable pub part_refusal : Network → List ℕ → List ℕ → ℕ
part_refusal n sheet bytes = 5 if ltb 16384 (length bytes) else sheet_list_refusal n sheet

-- the part with index k, of a sheet and the bytes that were read as its timetable
unfoldable pub part_text : Network → List ℕ → List ℕ → ℕ → List ℕ
part_text n sheet bytes k = get_or (parts_of n (decode_sheet sheet) bytes) k []

-- The key ring of this module: `unfolding opened` opens every definition above.
unfoldable pub opened : Unit {0}
unfolding input_outcome input_answer input_after part_refusal part_text
opened = tt
