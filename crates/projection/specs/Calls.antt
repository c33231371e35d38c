-- The call: its answer and the buffer afterwards, each by one equation. Document 01, "Projection and tally": "It
-- refuses 5, 3, 4, 7, 6, 9, 13." Assumes nothing.
use Rattle.std.specs.Prelude.{ℕ, Bool, not, ◌&&◌, List, eqb, ℤ, length}
use Rattle.base.specs.Choice.{◌if◌else◌}
use Rattle.railway.specs.Ranges.{station_ok, train_ok, minute_ok}
use Rattle.network.specs.Networks.{network_refusal, listed}
use Rattle.timetable.specs.Tables.{has_visit}
use Rattle.timetable.specs.Projection.{projection}
use Rattle.timetable.specs.Refusals.{early, call_refusal}
use Rattle.timetable.specs.Outputs.{Reply, output, output_after}
use Rattle.sheet.specs.Sheets.{decode_sheet, good_sheet}
use Rattle.projection.specs.Types.{Station, Train, Minute, Network}
use Rattle.projection.specs.Numbers.{rows_numbers}

-- "From s, t and an expected arrival 0..2879"
unfoldable pub values_fit : Station → Train → Minute → Bool
values_fit s t a = station_ok s && (train_ok t && minute_ok a)

-- before the sheet is looked at: 3 of the values or the network, 4, "7 station .. unknown", or 0
unfoldable pub early_refusal : Network → Station → Train → Minute → ℕ
early_refusal n s t a = early (3 if not (values_fit s t a) else 0) (network_refusal n) (7 if not (listed n s) else 0)

-- "9 visit .. missing"
unfoldable pub visit_refusal : Station → Train → List ℕ → ℕ
visit_refusal s t sheet = 9 if not (has_visit t (decode_sheet sheet s)) else 0

unfoldable pub project_refusal : Network → Station → Train → Minute → List ℕ → ℕ
project_refusal n s t a sheet =
    call_refusal (eqb (length sheet) 8192) (early_refusal n s t a) (good_sheet n (listed n) sheet) (visit_refusal s t sheet)

-- the rows, as numbers
unfoldable pub projected : Station → Train → Minute → List ℕ → List ℤ
projected s t a sheet = rows_numbers (projection (decode_sheet sheet) t s a.0)

module _ (n : Network) (s : Station) (t : Train) (a : Minute) (sheet : List ℕ) (buffer : List ℤ) where
  unfoldable pub project_answer : Reply
  project_answer = output (project_refusal n s t a sheet) (projected s t a sheet) buffer

  unfoldable pub project_after : List ℤ
  project_after = output_after (project_refusal n s t a sheet) (projected s t a sheet) buffer

-- The key ring of this module: `unfolding opened` opens every definition above.
unfoldable pub opened : Unit {0}
unfolding values_fit early_refusal visit_refusal project_refusal projected project_answer project_after
opened = tt
