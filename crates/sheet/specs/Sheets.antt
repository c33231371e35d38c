-- Sheets of 16 pages and divisions of six sheets. Document 01, "Sheets and division": "A sheet is 8,192 bytes and holds
-- one timetable"; "A division is 49,152 bytes, six sheets by area." Assumes nothing.
use Rattle.std.specs.Prelude.{ℕ, ◌*◌, ◌-◌, Bool, ◌&&◌, ltb, eqb, length, take, drop}
use mathlib.Core.List.{List, [], ◌∷◌, map, flat_map}
use Rattle.base.specs.Choice.{◌if◌else◌}
use Rattle.std.specs.Prelude.{if◌then◌else◌}
use Rattle.base.specs.Lists.{every}
use Rattle.railway.specs.Ranges.{station_ok, area_ok}
use Rattle.network.specs.Networks.{network_refusal, listed, area_of}
use Rattle.timetable.specs.Refusals.{call_refusal}
use Rattle.timetable.specs.Tables.{empty}
use Rattle.timetable.specs.Machine.{Timetable}
use Rattle.timetable.specs.Groups.{six, in_group}
use Rattle.records.specs.Bytes.{zeros, blank}
use Rattle.sheet.specs.Types.{Station, Area, Network}
use Rattle.page.specs.Pages.{encode_page, decode_page, good_page}

-- stations 1 to 16
unfoldable pub sixteen : List Station
sixteen = map (λ k. record { 0 = k }) (1 ∷ 2 ∷ 3 ∷ 4 ∷ 5 ∷ 6 ∷ 7 ∷ 8 ∷ 9 ∷ 10 ∷ 11 ∷ 12 ∷ 13 ∷ 14 ∷ 15 ∷ 16 ∷ [])

-- the page of station k at byte (k - 1) * 512
unfoldable pub page_at : List ℕ → Station → List ℕ
page_at sheet k = take 512 (drop (512 * (k.0 - 1)) sheet)

unfoldable pub encode_sheet : Timetable → List ℕ
encode_sheet m = flat_map (λ k. encode_page (m k)) sixteen

unfoldable pub decode_sheet : List ℕ → Timetable
decode_sheet sheet = λ k. if station_ok k then decode_page (page_at sheet k) else empty

-- a good sheet over the stations that pass the test: their pages are good, every other page is zeros
unfoldable pub good_sheet : Network → (Station → Bool) → List ℕ → Bool
good_sheet n over sheet = every (λ k. if over k then good_page n k (page_at sheet k) else blank (page_at sheet k)) sixteen

-- the sheet of area a at byte (a - 1) * 8192
unfoldable pub sheet_at : List ℕ → ℕ → List ℕ
sheet_at division a = take 8192 (drop (8192 * (a - 1)) division)

-- a division's sheets are each good over the stations of their area: "in a division only stations of its own area"
unfoldable pub good_division : Network → List ℕ → Bool
good_division n division = every (λ a. good_sheet n (λ k. listed n k && in_group (area_of n) a k) (sheet_at division a)) six

-- "Dividing puts each station's entries in its area's sheet; merging collects them."
unfoldable pub divided : Network → List ℕ → List ℕ
divided n sheet = flat_map (λ a. flat_map (λ k. if in_group (area_of n) a k then page_at sheet k else zeros 512) sixteen) six

unfoldable pub merged : Network → List ℕ → List ℕ
merged n division = flat_map (λ k. if ltb 0 (area_of n k) then page_at (sheet_at division (area_of n k)) k else zeros 512) sixteen

-- the calls

-- "One call gives back the part of the division that is one area's sheet, or an empty part on 5 or 3."
unfoldable pub area_part : List ℕ → Area → List ℕ
area_part division a = if eqb (length division) 49152 && area_ok a then sheet_at division a.0 else []

-- a station's page of a sheet, or an empty part where there is no sheet or no such station
unfoldable pub station_part : List ℕ → Station → List ℕ
station_part sheet s = if eqb (length sheet) 8192 && station_ok s then page_at sheet s else []

-- 5, 3, 14, 4, 6 in this order

-- of a call that reads the sheet of a whole timetable
abbrev pub whole_refusal : Network → List ℕ → ℕ
whole_refusal n sheet = call_refusal (eqb (length sheet) 8192) (network_refusal n) (good_sheet n (listed n) sheet) 0

unfoldable pub divide_refusal : Network → List ℕ → List ℕ → ℕ
divide_refusal n sheet division =
    call_refusal (eqb (length sheet) 8192 && eqb (length division) 49152) (network_refusal n) (good_sheet n (listed n) sheet) 0

-- the division afterwards: as it was on a refusal
unfoldable pub after_divide : Network → List ℕ → List ℕ → List ℕ
after_divide n sheet division = if eqb (divide_refusal n sheet division) 0 then divided n sheet else division

unfoldable pub merge_refusal : Network → List ℕ → List ℕ → ℕ
merge_refusal n division sheet =
    call_refusal (eqb (length division) 49152 && eqb (length sheet) 8192) (network_refusal n) (good_division n division) 0

unfoldable pub after_merge : Network → List ℕ → List ℕ → List ℕ
after_merge n division sheet = if eqb (merge_refusal n division sheet) 0 then merged n division else sheet

-- The key ring of this module: `unfolding opened` opens every definition above.
unfoldable pub opened : Unit {0}
unfolding sixteen page_at encode_sheet decode_sheet good_sheet sheet_at good_division divided merged area_part station_part divide_refusal after_divide
    merge_refusal after_merge
opened = tt
