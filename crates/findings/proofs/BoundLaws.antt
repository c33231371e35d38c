-- How long the lists of the calls are at most, where nothing refuses them: a good network has 16 stations. Assumes
-- nothing.
use Prim.Native.Nat.{ℕ, ◌≤◌}
use mathlib.Core.Path.{◌≡◌, refl, sym}
use mathlib.Core.Bool.{Bool, true, false, ◌&&◌}
use mathlib.Core.List.{List}
use native.Mathlib.Omega.{arith}
use lib.Dec.{T, leb, eqb, leb→le}
use lib.ListN.{length, length-map, length-take}
use borrow.Author.Tests.{eqb-true}
use Rattle.base.proofs.Tests.{T_true, true_T, and_l, and_r}
use Rattle.std.specs.Prelude.{if◌then◌else◌}
use Rattle.railway.specs.Ranges.{station_ok, area_ok}
use Rattle.network.specs.Networks.{station_rows, stations_of, network_refusal, listed}
use Rattle.network.proofs.NetworkLaws.{network_facts}
use Rattle.timetable.proofs.RefusalLaws.{call_passed}
use Rattle.timetable.specs.Tables.{empty}
use Rattle.page.specs.Pages.{decode_page}
use Rattle.sheet.specs.Sheets.{page_at, decode_sheet, good_sheet}
use Rattle.findings.specs.Types.{Station, Area, Network}
use Rattle.scope.specs.declared.Scope.{Scope}
use Rattle.findings.specs.Lists.{sheet_list, area_list, two_list, list_early, good_part, sheet_list_refusal, area_list_refusal, two_areas, two_list_refusal}
use Rattle.findings.specs.between.Joined.{joined}
use Rattle.builder.specs.between.Builder.{list_most}
use Rattle.findings.proofs.ListCalls.{early_fine, sheet_numbers, area_numbers_are, two-numbers}
use Rattle.builder.proofs.MostLaws.{page_visits, page_relations, all_most}

-- "A network lists 1..16 stations"
pub stations_few : (n : Network) → network_refusal n ≡ 0 → length (stations_of n) ≤ 16
unfolding stations_of station_rows
stations_few n g =
    let c : T (leb n.stationcount 16) = and_r (leb 1 n.stationcount) (leb n.stationcount 16) (network_facts n g).station_count in
    omega (arith, leb→le n.stationcount 16 c, length-map (station_rows n) (λ r. r.station), length-take n.stationcount n.stations)

-- what a sheet holds is within the limits
sheet_few : (sheet : List ℕ) (s : Station) → (length (decode_sheet sheet s).visits ≤ 24) × (length (decode_sheet sheet s).relations ≤ 6)
unfolding decode_sheet empty
sheet_few sheet s = go (station_ok s)
  where
    go : (b : Bool) → (length (if b then decode_page (page_at sheet s) else empty).visits ≤ 24) × (length (if b then decode_page (page_at sheet s) else empty).relations ≤ 6)
    go true = (page_visits (page_at sheet s), page_relations (page_at sheet s))
    go false = (omega arith, omega arith)

-- the lists of the calls, where nothing refuses them

module _ (n : Network) (sheet : List ℕ) where
  pub sheet_list_network : sheet_list_refusal n sheet ≡ 0 → network_refusal n ≡ 0
  unfolding sheet_list_refusal
  sheet_list_network g = (call_passed (eqb (length sheet) 8192) (network_refusal n) (good_sheet n (listed n) sheet) 0 g).1

  pub sheet_list_most : sheet_list_refusal n sheet ≡ 0 → length (sheet_list n sheet) ≤ list_most
  sheet_list_most g =
      rw (← sheet_numbers n sheet) (all_most n Scope.Whole (decode_sheet sheet) (sheet_few sheet) (stations_few n (sheet_list_network g)))

  pub area_list_most : (a : Area) → area_list_refusal n sheet a ≡ 0 → length (area_list n sheet a) ≤ list_most
  unfolding area_list_refusal
  area_list_most a g =
      let p = call_passed (eqb (length sheet) 8192) (list_early n (area_ok a)) (good_part n a sheet) 0 g in
      rw (← area_numbers_are n sheet a)
      (all_most n (Scope.Within a) (decode_sheet sheet) (sheet_few sheet) (stations_few n (early_fine n (area_ok a) p.1).1))

pub two_list_most : (n : Network) (first second : List ℕ) (a b : Area) → two_list_refusal n first second a b ≡ 0 → length (two_list n first second a b) ≤ list_most
unfolding two_list_refusal
two_list_most n first second a b g =
    let p = call_passed (eqb (length first) 8192 && eqb (length second) 8192) (list_early n (two_areas a b)) (good_part n a first && good_part n b second) 0 g in
    let both = true_T (eqb (length first) 8192 && eqb (length second) 8192) p.0 in
    let long = eqb-true (length first) 8192 (T_true (eqb (length first) 8192) (and_l (eqb (length first) 8192) (eqb (length second) 8192) both)) in
    let tall = eqb-true (length second) 8192 (T_true (eqb (length second) 8192) (and_r (eqb (length first) 8192) (eqb (length second) 8192) both)) in
    rw (← two-numbers n first second a b long tall 0 (sym p.1) refl)
    (all_most n (Scope.Between a b) (decode_sheet (joined n a b first second)) (sheet_few (joined n a b first second)) (stations_few n (early_fine n (two_areas a b) p.1).1))
