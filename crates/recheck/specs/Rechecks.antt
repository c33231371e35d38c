-- The calls that update a list of findings after one edit: what refuses them, and the numbers that they write. The sheet
-- is that after the edit; document 02, W5, and timetable/specs/Recheck.antt. "Order: 5, 3, 4, 7, 6"; then "3 unless it
-- rises" of the list, which is looked at last; 13 is in timetable/specs/Outputs.antt. Assumes nothing.
use Rattle.std.specs.Prelude.{ℕ, not, List, eqb, length}
use Rattle.base.specs.Choice.{◌if◌else◌}
use Rattle.railway.specs.Ranges.{area_ok}
use Rattle.network.specs.Networks.{network_refusal, listed, area_of}
use Rattle.timetable.specs.Machine.{edit_refusal}
use Rattle.timetable.specs.Refusals.{early, call_refusal}
use Rattle.timetable.specs.Findings.{findings, group_findings}
use Rattle.timetable.specs.Recheck.{list_rises, updated_numbers}
use Rattle.actions.specs.Early.{unknown_refusal, early_refusal}
use Rattle.sheet.specs.Sheets.{decode_sheet, good_sheet}
use Rattle.findings.specs.Lists.{good_part}
use Rattle.recheck.specs.Types.{Area, Edit, Network}

-- "3 unless it rises"
unfoldable pub list_refusal : List ℕ → ℕ
list_refusal list = 3 if not (list_rises list) else 0

-- of a sheet of all stations

unfoldable pub recheck_refusal : Network → Edit → List ℕ → List ℕ → ℕ
recheck_refusal n e sheet list = call_refusal (eqb (length sheet) 8192) (early_refusal n e) (good_sheet n (listed n) sheet) (list_refusal list)

unfoldable pub recheck_list : Network → Edit → List ℕ → List ℕ → List ℕ
recheck_list n e sheet list = updated_numbers n e list (findings n (decode_sheet sheet))

-- of an area's sheet

-- 3 of the area or the edit
unfoldable pub own_refusal : Area → Edit → ℕ
own_refusal a e = 3 if not (area_ok a) else edit_refusal e

unfoldable pub area_recheck_refusal : Network → Edit → Area → List ℕ → List ℕ → ℕ
area_recheck_refusal n e a sheet list =
    call_refusal (eqb (length sheet) 8192) (early (own_refusal a e) (network_refusal n) (unknown_refusal n e)) (good_part n a sheet) (list_refusal list)

unfoldable pub area_recheck_list : Network → Edit → Area → List ℕ → List ℕ → List ℕ
area_recheck_list n e a sheet list = updated_numbers n e list (group_findings n (area_of n) (decode_sheet sheet) a.0)

-- The key ring of this module: `unfolding opened` opens every definition above.
unfoldable pub opened : Unit {0}
unfolding list_refusal recheck_refusal recheck_list own_refusal area_recheck_refusal area_recheck_list
opened = tt
