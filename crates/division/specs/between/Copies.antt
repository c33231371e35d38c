-- Dividing and merging as copies of pages, by the list of the areas of stations 1 to 16: what the functions that copy
-- do. On the areas of a network they are `divided` and `merged` (proofs/CopyLaws.antt). Assumes nothing.
use Rattle.std.specs.Prelude.{ℕ, ◌+◌, ◌-◌, Bool, ltb, leb, eqb, get_or}
use mathlib.Core.List.{List, map, flat_map}
use Rattle.std.specs.Prelude.{if◌then◌else◌}
use Rattle.base.specs.Lists.{every}
use Rattle.network.specs.Networks.{area_of}
use Rattle.timetable.specs.Groups.{six}
use Rattle.records.specs.Bytes.{zeros}
use Rattle.division.specs.Types.{Network}
use Rattle.sheet.specs.Sheets.{sixteen, page_at, sheet_at}

-- a page, or zeros in its place
abbrev pub kept_page : Bool → List ℕ → List ℕ
kept_page kept page = if kept then page else zeros 512

-- the areas of stations 1 to 16, 0 for one that is not listed
unfoldable pub areas_in : Network → List ℕ
areas_in n = map (area_of n) sixteen

unfoldable pub areas_high : List ℕ → Bool
areas_high areas = every (λ a. leb a 6) areas

-- the area of the station at an index from 0
abbrev pub area_at : List ℕ → ℕ → ℕ
area_at areas i = get_or areas i 0

-- area a's sheet, and all six
unfoldable pub spread : List ℕ → List ℕ → ℕ → List ℕ
spread areas sheet a = flat_map (λ k. kept_page (eqb a (area_at areas (k.0 - 1))) (page_at sheet k)) sixteen

unfoldable pub spread_all : List ℕ → List ℕ → List ℕ
spread_all areas sheet = flat_map (spread areas sheet) six

-- the page of the station at an index from 0 in area a's sheet; zeros where it has no area
unfoldable pub collected_page : List ℕ → ℕ → ℕ → List ℕ
collected_page division i a = if ltb 0 a then page_at (sheet_at division a) (record { 0 = i + 1 }) else zeros 512

unfoldable pub collected : List ℕ → List ℕ → List ℕ
collected areas division = flat_map (λ k. collected_page division (k.0 - 1) (area_at areas (k.0 - 1))) sixteen

-- The key ring of this module: `unfolding opened` opens every definition above.
unfoldable pub opened : Unit {0}
unfolding areas_in areas_high spread spread_all collected_page collected
opened = tt
