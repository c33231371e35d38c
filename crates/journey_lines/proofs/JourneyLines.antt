-- The projections from the visits of a good sheet: the call is not refused from a visit that stands in it, its rows are
-- the lines of the visit, and the stations are the rows of the network. Assumes nothing.
use Prim.Native.Nat.{ℕ, zero, suc, ◌+◌, ◌*◌, ◌/◌, ◌≤◌, ◌<◌, min}
use mathlib.Core.Path.{◌≡◌, sym, ◌∙◌, ap}
use mathlib.Core.Bool.{true}
use mathlib.Core.List.{List, [], ◌∷◌, flat_map}
use native.Mathlib.Omega.{arith}
use lib.Dec.{T, leb, eqb, leb→le, eqb_refl}
use lib.IntN.{ℤ}
use lib.ListN.{length, get_or, take, length-take}
use borrow.Author.Tests.{le-leb, eq-eqb}
use Rattle.std.specs.Prelude.{Result, Ok, Err}
use Rattle.base.specs.declared.refusal.OutputError.{OutputError}
use Rattle.std.specs.Prelude.{option_map}
use Rattle.base.specs.Lists.{every, first, is}
use Rattle.base.proofs.Tests.{by_value, T_true, true_T, and_l, and_r, parts, every_map, every_at}
use Rattle.railway.specs.Ranges.{station_ok, train_ok, same_train}
use Rattle.network.specs.Networks.{blank_station, network_refusal, listed, station_rows, stations_of}
use Rattle.network.proofs.NetworkLaws.{network_facts, stations_listed}
use Rattle.timetable.specs.Tables.{Entry, Table, visit_of, has_visit}
use Rattle.timetable.specs.Machine.{Timetable}
use Rattle.timetable.specs.Good.{visit_good, entry_good, visits_good, table_good}
use Rattle.timetable.specs.Projection.{from_arrival, projection}
use Rattle.timetable.specs.Visits.{arr}
use Rattle.timetable.specs.Outputs.{reply_of}
use Rattle.sheet.specs.Sheets.{decode_sheet}
use Rattle.network.proofs.AreaLaws.{listed_ok}
use Rattle.records.specs.Records.{decode_entry}
use Rattle.page.specs.between.Changes.{table_in}
use Rattle.page.specs.between.Entries.{entry_at}
use Rattle.timetable.specs.Refusals.{or_else, call_refusal}
use Rattle.projection.specs.Numbers.{rows_numbers}
use Rattle.projection.specs.Calls.{values_fit, visit_refusal, project_refusal, projected, project_answer, project_after}
use Rattle.projection.proofs.ProjectionCall.{early_none}
use Rattle.findings.specs.Lists.{sheet_list_refusal}
use Rattle.builder.proofs.BuildLaws.{flat_map_lem}
use Rattle.listings.specs.Inspect.{row_text, visit_text, journeys_text}
use Rattle.journey_lines.specs.between.Journeys.{journey_lines}
use Rattle.journey_lines.specs.Types.{Station, Train, Minute, Visit, StationRow, Network, Row}
use Rattle.text.specs.between.Rows.{rows_text}
use Rattle.text.proofs.OutputLaws.{written_whole, written_many, never_refused}
use Rattle.journey_lines.proofs.RowTexts.{rows_lines}
use Rattle.journey_lines.proofs.RowRanges.{numbers_many, rows_few, rows_small}
use Rattle.findings.proofs.ListedSheet.{parts_fine, fine_network, sheet_whole}

abbrev entry : Train → Visit → Entry
entry t v = record { train = t; visit = v }

first_there : (es : List Entry) (i : ℕ) (d : Entry) → i < length es → is (λ v. true) (option_map (λ e. e.visit) (first (λ e. same_train e.train (get_or es i d).train) es)) ≡ true
unfolding first
first_there [] i d h = absurd (omega arith)
first_there (e ∷ es) zero d h = rw (T_true (eqb e.train.0 e.train.0) (eqb_refl e.train.0))
first_there (e ∷ es) (suc i) d h = by_value (same_train e.train (get_or es i d).train) (λ p. rw p) (λ p. rw p (first_there es i d (omega arith)))

-- for whoever knows that nothing refuses
pub journeys_there : (n : Network) (sheet : List ℕ) → sheet_list_refusal n sheet ≡ 0 → journey_lines n sheet ≡ journeys_text n (decode_sheet sheet)
unfolding journey_lines
journeys_there n sheet fine = rw (eq-eqb (sheet_list_refusal n sheet) 0 fine)

-- a good sheet
module _ (n : Network) (sheet : List ℕ) (fine : sheet_list_refusal n sheet ≡ 0) (s : Station) (here : listed n s ≡ true) where
  pub here_ok : T (station_ok s)
  here_ok = listed_ok n (fine_network n sheet fine) s (true_T (listed n s) here)

  -- the call that projects, from a visit that stands there
  module _ (t : Train) (a : Minute) (b : List ℤ) (known : train_ok t ≡ true) (there : has_visit t (decode_sheet sheet s) ≡ true) (time : a.0 ≤ 2879) (room : length b ≡ 64) where
    not_refused : project_refusal n s t a sheet ≡ 0
    unfolding project_refusal visit_refusal values_fit call_refusal or_else
    not_refused =
        let early = early_none n s t a (rw (T_true (station_ok s) here_ok, known, le-leb a.0 2879 time)) (fine_network n sheet fine) here in
        rw ((parts_fine n sheet fine).0, sym early, (parts_fine n sheet fine).2, there)

    few : length (projected s t a sheet) ≤ 64
    unfolding projected projection
    few = omega (arith, numbers_many (from_arrival 16 (decode_sheet sheet) t s a.0), rows_few 16 (decode_sheet sheet) t s a.0)

    fits : length (projected s t a sheet) ≤ length b
    fits = omega (arith, few, room)

    module _ (r : Result ℕ OutputError) (answered : reply_of r ≡ project_answer n s t a sheet b) where
      pub rows-many : (k : ℕ) → r ≡ Ok k → k ≡ length (projected s t a sheet)
      unfolding project_answer
      rows-many k e = written_many (project_refusal n s t a sheet) (projected s t a sheet) b not_refused fits r answered k e

      pub rows-unrefused {ℓ} : {P : Type ℓ} (k : OutputError) → r ≡ Err k → P
      unfolding project_answer
      rows-unrefused k e = never_refused (project_refusal n s t a sheet) (projected s t a sheet) b not_refused fits r answered k e

    rows_whole : take (length (projected s t a sheet)) (project_after n s t a sheet b) ≡ projected s t a sheet
    unfolding project_after
    rows_whole = written_whole (project_refusal n s t a sheet) (projected s t a sheet) b not_refused fits

    pub lines_printed : (v : Visit) → a.0 ≡ min (arr v + 5) 2879 → (k : ℕ) → k ≡ length (projected s t a sheet) → (later : List ℤ) → later ≡ project_after n s t a sheet b
        → (k / 4 ≤ 16)
        × (4 * (k / 4) ≤ length later)
        × (rows_text s.0 t.0 (take (4 * (k / 4)) later) ≡ visit_text n (decode_sheet sheet) s (entry t v))
    unfolding projected projection visit_text
    lines_printed v e k l later q =
        let rs : List Row = projection (decode_sheet sheet) t s a.0 in
        let all : 4 * (k / 4) ≡ length (rows_numbers rs) = omega (arith, l, numbers_many rs) in
        let taken : take (4 * (k / 4)) later ≡ rows_numbers rs = ap (λ (j : ℕ). take j later) all ∙ ap (take (length (rows_numbers rs))) q ∙ rows_whole in
        let low = rows_small n (fine_network n sheet fine) (decode_sheet sheet) (sheet_whole n sheet fine) t 16 0 (omega arith) s a.0 (omega (arith, time)) in (
          omega (arith, l, few),
          omega (arith, all, ap length taken, length-take (4 * (k / 4)) later),
          ap (rows_text s.0 t.0) taken ∙ rows_lines s.0 t.0 rs low ∙ ap (λ (x : ℕ). flat_map (row_text s.0 t.0) (projection (decode_sheet sheet) t s x)) e,
        )

  -- the visit at an index
  entry_known : (i : ℕ) (d : Entry) → i < length (decode_sheet sheet s).visits → train_ok (get_or (decode_sheet sheet s).visits i d).train ≡ true
  unfolding table_good visits_good entry_good
  entry_known i d h =
      let tab : Table = decode_sheet sheet s in
      let all : T (table_good n s tab) = (sheet_whole n sheet fine).good s (true_T (listed n s) here) in
      let each : T (every (entry_good n s) tab.visits) = search parts in
      T_true (train_ok (get_or tab.visits i d).train)
      (and_l (train_ok (get_or tab.visits i d).train) (visit_good n s (get_or tab.visits i d).visit) (every_at (entry_good n s) tab.visits i d each h))

  -- as it is read from the page
  pub entry_there : (page : List ℕ) → table_in page ≡ decode_sheet sheet s → (i : ℕ) → i < length (table_in page).visits → (t : Train) (v : Visit) → entry t v ≡ entry_at i page
      → (train_ok t ≡ true) × (has_visit t (decode_sheet sheet s) ≡ true)
  unfolding entry_at has_visit visit_of
  entry_there page same i h t v e =
      let d = decode_entry [] in
      let f : entry t v ≡ get_or (decode_sheet sheet s).visits i d = e ∙ ap (λ (tab : Table). get_or tab.visits i d) same in
      let g : t ≡ (get_or (decode_sheet sheet s).visits i d).train = ap (λ (x : Entry). x.train) f in
      let inside : i < length (decode_sheet sheet s).visits = rw same at h in
      (ap train_ok g ∙ entry_known i d inside, ap (λ (x : Train). has_visit x (decode_sheet sheet s)) g ∙ first_there (decode_sheet sheet s).visits i d inside)

-- the stations of a good network, row by row
module _ (n : Network) (good : network_refusal n ≡ 0) (m : Timetable) where
  pub rows_many : length (station_rows n) ≤ 16
  unfolding station_rows
  rows_many = omega (arith, length-take n.stationcount n.stations, leb→le n.stationcount 16 (and_r (leb 1 n.stationcount) (leb n.stationcount 16) (network_facts n good).station_count))

  pub row_listed : (i : ℕ) → i < length (station_rows n) → listed n (get_or (station_rows n) i blank_station).station ≡ true
  unfolding stations_of
  row_listed i h =
      let all : T (every (λ r. listed n r.station) (station_rows n)) = rw (every_map (listed n) (λ (r : StationRow). r.station) (station_rows n)) at (stations_listed n) in
      T_true (listed n (get_or (station_rows n) i blank_station).station) (every_at (λ r. listed n r.station) (station_rows n) i blank_station all h)

  pub rows_journeys : flat_map (λ (r : StationRow). flat_map (visit_text n m r.station) (m r.station).visits) (station_rows n) ≡ journeys_text n m
  unfolding journeys_text stations_of
  rows_journeys = sym (flat_map_lem (λ s. flat_map (visit_text n m s) (m s).visits) (λ (r : StationRow). r.station) (station_rows n))
