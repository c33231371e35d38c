-- The call that writes a timetable: what it answers, and the buffer afterwards. "Order: 5, 3, 4, .. 6, .. 13"; the
-- bytes are those of the numbers of timetable TimetableFile. And how much a sheet holds. Assumes nothing.
use Rattle.std.specs.Prelude.{ℕ, List, eqb, length, Result, Ok, Err}
use Rattle.std.specs.Prelude.{if◌then◌else◌}
use Rattle.base.specs.RefusalNumbers.{number_of}
use Rattle.timetable.specs.Count.{visit_count, relation_count}
use Rattle.timetable.specs.Formats.{bytes_of}
use Rattle.timetable.specs.TimetableFile.{timetable_numbers}
use Rattle.timetable.specs.Outputs.{Reply, output, output_after}
use Rattle.sheet.specs.Sheets.{decode_sheet, whole_refusal}
use Rattle.timetable_writing.specs.Types.{Refusal, Network, Totals}

-- the timetable that the sheet holds
unfoldable pub timetable_bytes : Network → List ℕ → List ℕ
timetable_bytes n sheet = bytes_of (timetable_numbers n (decode_sheet sheet))

-- 5, 3, 14, 4, 6, 13: "5 a wrong buffer length", "6 a sheet it reads isn't good"

unfoldable pub write_timetable : Network → List ℕ → List ℕ → Reply
write_timetable n sheet buffer = output (whole_refusal n sheet) (timetable_bytes n sheet) buffer

unfoldable pub timetable_written : Network → List ℕ → List ℕ → List ℕ
timetable_written n sheet buffer = output_after (whole_refusal n sheet) (timetable_bytes n sheet) buffer

-- "T: visits, relations": of a sheet, as its pages stand; "5 a wrong buffer length". Zeros stand beside a refusal.
pub record TotalsTold : Type 0 where
  pub refusal : ℕ
  pub visits : ℕ
  pub relations : ℕ

abbrev pub totals_told : Result Totals Refusal → TotalsTold
totals_told (Ok t) = record { refusal = 0; visits = t.visits; relations = t.relations }
totals_told (Err r) = record { refusal = number_of r; visits = 0; relations = 0 }

unfoldable pub sheet_totals : Network → List ℕ → TotalsTold
sheet_totals n sheet =
    if eqb (length sheet) 8192
    then record { refusal = 0; visits = visit_count n (decode_sheet sheet); relations = relation_count n (decode_sheet sheet) }
    else record { refusal = 5; visits = 0; relations = 0 }

-- The key ring of this module: `unfolding opened` opens every definition above.
unfoldable pub opened : Unit {0}
unfolding timetable_bytes write_timetable timetable_written sheet_totals
opened = tt
