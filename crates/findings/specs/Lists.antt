-- The lists of findings of sheets, and what refuses them. Document 01, "Findings": "A whole timetable's findings: all
-- rules at all stations. An area's findings, at its stations: rules 1 to 6, and 7 to 10 where the far station is its
-- own too. A pair's (unordered): 7 to 10 across the two, which differ (else 3)." Assumes nothing.
use Rattle.std.specs.Prelude.{ℕ, ◌≡◌, Bool, not, ◌&&◌, List, eqb, length, Result}
use Rattle.base.specs.Choice.{◌if◌else◌}
use Rattle.std.specs.Prelude.{if◌then◌else◌}
use Rattle.railway.specs.Ranges.{area_ok}
use Rattle.network.specs.Networks.{network_refusal, listed, area_of}
use Rattle.timetable.specs.Tables.{empty}
use Rattle.timetable.specs.Groups.{Divided, in_group}
use Rattle.timetable.specs.Findings.{numbers_of, findings, group_findings, pair_list}
use Rattle.timetable.specs.Refusals.{early, call_refusal}
use Rattle.timetable.specs.Outputs.{reply_of, output, output_after}
use Rattle.sheet.specs.Sheets.{decode_sheet, good_sheet, whole_refusal}
use Rattle.findings.specs.Types.{Area, Network, OutputError}

-- the lists

unfoldable pub sheet_list : Network → List ℕ → List ℕ
sheet_list n sheet = numbers_of (findings n (decode_sheet sheet))

-- an area's, from its sheet alone
unfoldable pub area_list : Network → List ℕ → Area → List ℕ
area_list n sheet a = numbers_of (group_findings n (area_of n) (decode_sheet sheet) a.0)

-- two sheets as the parts of their areas in a division, every other part bare
unfoldable pub two_parts : List ℕ → List ℕ → Area → Area → Divided
two_parts first second a b = λ g. if eqb g a.0 then decode_sheet first else if eqb g b.0 then decode_sheet second else λ k. empty

-- a pair's, from their two sheets alone
unfoldable pub two_list : Network → List ℕ → List ℕ → Area → Area → List ℕ
two_list n first second a b = numbers_of (pair_list n (area_of n) (two_parts first second a b) (a.0, b.0))

-- a call refused with k, or with 0 and these numbers to write, answers r and leaves the buffer as `after`
abbrev pub Answers : ℕ → List ℕ → List ℕ → Result ℕ OutputError → List ℕ → Type 0
Answers k xs buffer r after = (reply_of r ≡ output k xs buffer) × (after ≡ output_after k xs buffer)

-- what refuses them: "Order: 5, 3, 4, 7, 6"; 13 is in timetable/specs/Outputs.antt

-- 3 of the areas that come with the sheets or of the network, 4
unfoldable pub list_early : Network → Bool → ℕ
list_early n ok = early (3 if not ok else 0) (network_refusal n) 0

-- "in a division only stations of its own area"
unfoldable pub good_part : Network → Area → List ℕ → Bool
good_part n a sheet = good_sheet n (λ k. listed n k && in_group (area_of n) a.0 k) sheet

unfoldable pub sheet_list_refusal : Network → List ℕ → ℕ
sheet_list_refusal n sheet = whole_refusal n sheet

unfoldable pub area_list_refusal : Network → List ℕ → Area → ℕ
area_list_refusal n sheet a = call_refusal (eqb (length sheet) 8192) (list_early n (area_ok a)) (good_part n a sheet) 0

-- "which differ (else 3)"
unfoldable pub two_areas : Area → Area → Bool
two_areas a b = area_ok a && (area_ok b && not (eqb a.0 b.0))

unfoldable pub two_list_refusal : Network → List ℕ → List ℕ → Area → Area → ℕ
two_list_refusal n first second a b =
    call_refusal (eqb (length first) 8192 && eqb (length second) 8192) (list_early n (two_areas a b)) (good_part n a first && good_part n b second) 0

-- The key ring of this module: `unfolding opened` opens every definition above.
unfoldable pub opened : Unit {0}
unfolding sheet_list area_list two_parts two_list list_early good_part sheet_list_refusal area_list_refusal two_areas two_list_refusal
opened = tt
