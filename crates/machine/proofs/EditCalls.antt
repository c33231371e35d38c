-- The calls on bytes are the edit on pages: where the buffer has its length, nothing refuses the edit before a sheet is
-- looked at, and the sheets are good, the pages of the named stations hold their tables; the edit on pages leaves the
-- new tables there and nothing else changes, so page by page the bytes are those that the calls' definitions say.
-- Assumes nothing.
use Prim.Native.Nat.{ℕ, ◌+◌, ◌*◌, ◌-◌, ◌≤◌}
use mathlib.Core.Path.{◌≡◌, refl, sym, ◌∙◌, ap}
use mathlib.Core.Bool.{Bool, true, false, not, ◌&&◌, ◌||◌}
use mathlib.Core.List.{List, flat_map}
use native.Mathlib.Omega.{arith}
use lib.Dec.{T, ltb, leb, eqb, leb→le, le→leb, eqb→eq}
use lib.ListN.{length}
use borrow.Author.Tests.{ltb-true, eq-eqb, ne_eqb}
use Rattle.base.specs.Choice.{◌if◌else◌}
use Rattle.std.specs.Prelude.{if◌then◌else◌}
use Rattle.base.specs.Lists.{every, each_two, rising}
use Rattle.base.proofs.Tests.{by_test, by_value, T_true, true_T, not_T_false, and_l, and_r, both}
use Rattle.railway.specs.Ranges.{station_ok}
use Rattle.network.specs.Networks.{listed, area_of}
use Rattle.timetable.specs.Tables.{empty}
use Rattle.timetable.specs.Machine.{Timetable, answer, after}
use Rattle.timetable.specs.Groups.{six, names, names_group, in_group, divide, merge, gather, divided_answer, divided_after}
use Rattle.timetable.specs.Good.{Whole, table_good, visits_good, relations_good}
use Rattle.timetable.proofs.Locality.{others_kept, names_listed}
use Rattle.theory.proofs.Kept.{after_whole}
use Rattle.theory.proofs.Divided.{group_named}
use Rattle.actions.proofs.EarlyLaws.{Early}
use Rattle.page.specs.Pages.{encode_page, decode_page, good_page}
use Rattle.sheet.specs.Sheets.{page_at, encode_sheet, decode_sheet, good_sheet, sheet_at}
use Rattle.network.proofs.AreaLaws.{area_high, listed_placed, listed_ok}
use Rattle.page.proofs.PageLaws.{Coded, empty_coded, blank_page, good_bytes, good_table}
use Rattle.sheet.proofs.SheetLaws.{area_number, station_low, station_high, page_good, page_zeros, decoded_page, good_all_coded, encoded_size, encoded_page}
use Rattle.sheet.proofs.SheetLaws.{sheets_equal, sheet_size, sheets_whole, row_same, all_areas, each_area}
use Rattle.machine.specs.Types.{Layout, Station, Edit, Network}
use Rattle.machine.specs.Calls.{refused_with, sheet_refusal, sheet_answer, sheet_after}
use Rattle.machine.specs.Calls.{named_good, parts, division_refusal, division_answer, division_after}
use Rattle.page_edits.specs.between.PageEdits.{place_of, frames_answer, frames_after}
use Rattle.sheet.specs.between.Frames.{frame}
use Rattle.sheet.proofs.FrameLaws.{sheet_frame, division_frame}
use Rattle.machine.proofs.FrameEdits.{Holds, Step, frames_answers, frames_step}
use Rattle.machine.proofs.ByteEdits.{in_listed, whole_of, page_of, whole_later, later_size}

-- the places of stations

-- different stations of 1..16 have different places
pub place_apart : (layout : Layout) (n : Network) (k j : Station) → T (station_ok k) → T (station_ok j) → place_of layout n k ≡ place_of layout n j → k ≡ j
unfolding place_of
place_apart Layout.Division n k j s u q =
    let same : k.0 ≡ j.0 = omega (arith, station_low k s, station_high k s, station_low j u, station_high j u) in
    λ i. record { 0 = same i }
place_apart Layout.Sheet n k j s u q =
    let same : k.0 ≡ j.0 = omega (arith, station_low k s, station_high k s, station_low j u, station_high j u) in
    λ i. record { 0 = same i }

module _ (n : Network) (e : Edit) (early : Early n e) where
  pub named_ok : (k : Station) → T (names n e k) → T (station_ok k)
  named_ok k t = listed_ok n early.network k (names_listed n e k t)

  pub named_apart : (layout : Layout) (k j : Station) → T (names n e k) → T (names n e j) → place_of layout n k ≡ place_of layout n j → k ≡ j
  named_apart layout k j t u = place_apart layout n k j (named_ok k t) (named_ok j u)

-- on a sheet

module _ (n : Network) (e : Edit) (early : Early n e) (sheet : List ℕ) (size : length sheet ≡ 8192) (fine : T (good_sheet n (listed n) sheet)) where
  sheet_holds : Holds (place_of Layout.Sheet n) (names n e) (decode_sheet sheet) sheet
  unfolding place_of
  sheet_holds = record {
    room = λ k t. omega (arith, size, station_low k (named_ok n e early k t), station_high k (named_ok n e early k t));
    page = λ k t. sym (sheet_frame sheet k) ∙ page_of n early.network sheet size fine k (named_ok n e early k t);
  }

  sheet_tables : (k : Station) → T (names n e k) → T (table_good n k (decode_sheet sheet k))
  sheet_tables k t = (whole_of n early.network sheet size fine).good k (names_listed n e k t)

  pub sheet_answers : frames_answer Layout.Sheet n e sheet ≡ answer n e (decode_sheet sheet)
  sheet_answers = frames_answers n early.network Layout.Sheet e early.ok early.fits (named_apart n e early Layout.Sheet) (decode_sheet sheet) sheet_tables sheet sheet_holds

  sheet_step : Step (place_of Layout.Sheet n) (names n e) (after n e (decode_sheet sheet)) sheet (frames_after Layout.Sheet n e sheet)
  sheet_step = frames_step n early.network Layout.Sheet e early.ok early.fits (named_apart n e early Layout.Sheet) (decode_sheet sheet) sheet_tables sheet sheet_holds

  abbrev later : Timetable
  later = after n e (decode_sheet sheet)

  later_page : (k : Station) → T (station_ok k) → page_at (encode_sheet later) k ≡ encode_page (later k)
  later_page k s = encoded_page later (λ j u. good_all_coded n (listed n) (listed_ok n early.network) later (whole_later n early.network sheet size fine e) j) k s

  page_later : (k : Station) → T (station_ok k) → page_at (frames_after Layout.Sheet n e sheet) k ≡ encode_page (later k)
  unfolding place_of
  page_later k s = by_test (names n e k)
      (λ t. sheet_frame (frames_after Layout.Sheet n e sheet) k ∙ sheet_step.holds.page k t)
      (λ t. sheet_frame (frames_after Layout.Sheet n e sheet) k
      ∙ sheet_step.other (k.0 - 1) (λ j u q. t (rw (place_apart Layout.Sheet n j k (named_ok n e early j u) s q) at u))
      ∙ sym (sheet_frame sheet k) ∙ page_of n early.network sheet size fine k s
      ∙ ap encode_page (sym (others_kept n e (decode_sheet sheet) k t)))

  pub sheet_bytes : frames_after Layout.Sheet n e sheet ≡ encode_sheet later
  sheet_bytes =
      sheets_equal (frames_after Layout.Sheet n e sheet) (encode_sheet later) (sheet_step.size ∙ size) (later_size n early.network sheet size fine e)
      (λ k s. page_later k s ∙ sym (later_page k s))

-- on a division

and_second : (x y : Bool) → y ≡ false → (x && y) ≡ false
and_second true y e = e
and_second false y e = refl

bare_good : (n : Network) (k : Station) → T (table_good n k empty)
unfolding empty table_good visits_good relations_good rising each_two every
bare_good n k = tt

module _ (n : Network) (e : Edit) (early : Early n e) (division : List ℕ) (size : length division ≡ 49152) (fine : T (named_good n e division)) where
  abbrev γ : Station → ℕ
  γ = area_of n

  abbrev over : ℕ → Station → Bool
  over a k = listed n k && in_group γ a k

  -- a named area's sheet is good
  area_fine : (a : ℕ) → T (area_number a) → names_group n γ e a ≡ true → T (good_sheet n (over a) (sheet_at division a))
  unfolding named_good
  area_fine a t q =
      let x : T (not (names_group n γ e a) || good_sheet n (over a) (sheet_at division a)) =
      each_area (λ c. not (names_group n γ e c) || good_sheet n (over c) (sheet_at division c)) fine a t in
      rw q at x

  -- what the edit works on
  gathered : Timetable
  gathered = gather γ (names_group n γ e) (parts division)

  listed_area : (k : Station) → T (listed n k) → T (area_number (γ k))
  listed_area k l =
      let p : ltb 0 (γ k) ≡ true = sym (listed_placed n early.network k) ∙ T_true (listed n k) l in
      both (leb 1 (γ k)) (leb (γ k) 6) (le→leb 1 (γ k) (omega (arith, ltb-true 0 (γ k) p))) (le→leb (γ k) 6 (area_high n early.network k))

  own : (k : Station) → T (listed n k) → over (γ k) k ≡ true
  unfolding in_group
  own k l = rw (T_true (listed n k) l, sym (listed_placed n early.network k) ∙ T_true (listed n k) l, eq-eqb (γ k) (γ k) refl)

  -- of a station of a named area
  gathered_own : (k : Station) → T (listed n k) → names_group n γ e (γ k) ≡ true → gathered k ≡ decode_page (page_at (sheet_at division (γ k)) k)
  unfolding gathered gather merge parts
  gathered_own k l q =
      rw (q, sym (listed_placed n early.network k) ∙ T_true (listed n k) l) (decoded_page (sheet_at division (γ k)) k (listed_ok n early.network k l))

  gathered_other : (k : Station) → names_group n γ e (γ k) ≡ false → gathered k ≡ empty
  unfolding gathered gather
  gathered_other k q = rw q

  gathered_bare : (k : Station) → listed n k ≡ false → gathered k ≡ empty
  unfolding gathered gather merge
  gathered_bare k l = rw (sym (listed_placed n early.network k) ∙ l) (by_value (names_group n γ e (γ k)) (λ q. rw q) (λ q. rw q))

  own_good : (k : Station) → T (listed n k) → names_group n γ e (γ k) ≡ true → T (good_page n k (page_at (sheet_at division (γ k)) k))
  own_good k l q = page_good n (over (γ k)) (sheet_at division (γ k)) (area_fine (γ k) (listed_area k l) q) k (listed_ok n early.network k l) (own k l)

  gathered_whole : Whole n gathered
  gathered_whole = record { good = good; bare = λ k t. gathered_bare k (not_T_false (listed n k) t) }
    where
      good : (k : Station) → T (listed n k) → T (table_good n k (gathered k))
      good k l = by_value (names_group n γ e (γ k))
          (λ q. rw (gathered_own k l q) (good_table n k (page_at (sheet_at division (γ k)) k) (own_good k l q)))
          (λ q. rw (gathered_other k q) (bare_good n k))

  abbrev now_later : Timetable
  now_later = after n e gathered

  later_whole : Whole n now_later
  later_whole = after_whole n gathered e gathered_whole

  -- the page of a station of a named area
  own_page : (k : Station) → T (listed n k) → names_group n γ e (γ k) ≡ true → page_at (sheet_at division (γ k)) k ≡ encode_page (gathered k)
  own_page k l q =
      good_bytes n k (page_at (sheet_at division (γ k)) k) (own_good k l q) ∙ ap encode_page (sym (gathered_own k l q))

  named_area : (k : Station) → T (names n e k) → names_group n γ e (γ k) ≡ true
  named_area k t = T_true (names_group n γ e (γ k)) (group_named n γ e k t)

  division_holds : Holds (place_of Layout.Division n) (names n e) gathered division
  unfolding place_of
  division_holds = record { room = room; page = page }
    where
      room : (k : Station) → T (names n e k) → 512 * (16 * (γ k - 1) + (k.0 - 1)) + 512 ≤ length division
      room k t =
          let l = names_listed n e k t in
          let s = named_ok n e early k t in
          let a = listed_area k l in
          omega (arith, size, station_low k s, station_high k s, leb→le 1 (γ k) (and_l (leb 1 (γ k)) (leb (γ k) 6) a), leb→le (γ k) 6 (and_r (leb 1 (γ k)) (leb (γ k) 6) a))

      page : (k : Station) → T (names n e k) → frame (16 * (γ k - 1) + (k.0 - 1)) division ≡ encode_page (gathered k)
      page k t = sym (division_frame division (γ k) k (named_ok n e early k t)) ∙ own_page k (names_listed n e k t) (named_area k t)

  division_tables : (k : Station) → T (names n e k) → T (table_good n k (gathered k))
  division_tables k t = gathered_whole.good k (names_listed n e k t)

  pub division_answers : frames_answer Layout.Division n e division ≡ divided_answer n γ e (parts division)
  unfolding divided_answer gathered
  division_answers = frames_answers n early.network Layout.Division e early.ok early.fits (named_apart n e early Layout.Division) gathered division_tables division division_holds

  abbrev done : List ℕ
  done = frames_after Layout.Division n e division

  division_step : Step (place_of Layout.Division n) (names n e) now_later division done
  division_step = frames_step n early.network Layout.Division e early.ok early.fits (named_apart n e early Layout.Division) gathered division_tables division division_holds

  -- the page of a station that the edit names
  named_page : (k : Station) → T (names n e k) → page_at (sheet_at done (γ k)) k ≡ encode_page (now_later k)
  unfolding place_of
  named_page k t = division_frame done (γ k) k (named_ok n e early k t) ∙ division_step.holds.page k t

  -- any other page
  other_page : (a : ℕ) → T (area_number a) → (k : Station) → T (station_ok k) → ¬ (T (names n e k) × (γ k ≡ a)) → page_at (sheet_at done a) k ≡ page_at (sheet_at division a) k
  unfolding place_of
  other_page a u k s away =
      division_frame done a k s
      ∙ division_step.other (16 * (a - 1) + (k.0 - 1)) elsewhere
      ∙ sym (division_frame division a k s)
    where
      elsewhere : (j : Station) → T (names n e j) → ¬ (16 * (γ j - 1) + (j.0 - 1) ≡ 16 * (a - 1) + (k.0 - 1))
      elsewhere j t q =
          let w = named_ok n e early j t in
          let b = listed_area j (names_listed n e j t) in
          let low = leb→le 1 (γ j) (and_l (leb 1 (γ j)) (leb (γ j) 6) b) in
          let least = leb→le 1 a (and_l (leb 1 a) (leb a 6) u) in
          let same : j.0 ≡ k.0 = omega (arith, station_low j w, station_high j w, station_low k s, station_high k s) in
          let area : γ j ≡ a = omega (arith, station_low j w, station_high j w, station_low k s, station_high k s) in
          let is : j ≡ k = λ i. record { 0 = same i } in
          away (rw is at t, rw is at area)

  -- a page of a named area's sheet
  module _ (a : ℕ) (u : T (area_number a)) (q : names_group n γ e a ≡ true) (k : Station) (s : T (station_ok k)) where
    inside_page : in_group γ a k ≡ true → page_at (sheet_at done a) k ≡ encode_page (now_later k)
    unfolding in_group
    inside_page y =
        let t = true_T (ltb 0 a && eqb a (γ k)) y in
        let area : a ≡ γ k = eqb→eq a (γ k) (and_r (ltb 0 a) (eqb a (γ k)) t) in
        let l = in_listed n early.network a k t in
        by_test (names n e k)
        (λ x. rw area (named_page k x))
        (λ x. other_page a u k s (λ z. x z.0) ∙ rw area (own_page k l (rw (← area) q)) ∙ ap encode_page (sym (others_kept n e gathered k x)))

    outside_page : in_group γ a k ≡ false → page_at (sheet_at done a) k ≡ encode_page empty
    outside_page y =
        let none : over a k ≡ false = and_second (listed n k) (in_group γ a k) y in
        other_page a u k s (λ z. true_T false (sym none ∙ ap (λ (c : ℕ). over c k) (sym z.1) ∙ own k (names_listed n e k z.0)))
        ∙ page_zeros n (over a) (sheet_at division a) (area_fine a u q) k s (sheet_size division a size u) none
        ∙ sym blank_page

  -- the sheet of a named area
  own_sheet : (a : ℕ) → T (area_number a) → names_group n γ e a ≡ true → sheet_at done a ≡ encode_sheet (divide γ now_later a)
  unfolding divide
  own_sheet a u q =
      sheets_equal (sheet_at done a) (encode_sheet part) (sheet_size done a (division_step.size ∙ size) u) (encoded_size part coded) (λ k s. page k s ∙ sym (encoded_page part coded k s))
    where
      part : Timetable
      part = λ k. if in_group γ a k then now_later k else empty

      coded : (k : Station) → T (station_ok k) → Coded (part k)
      coded k s = go (in_group γ a k)
        where
          go : (b : Bool) → Coded (if b then now_later k else empty)
          go true = good_all_coded n (listed n) (listed_ok n early.network) now_later later_whole k
          go false = empty_coded

      page : (k : Station) → T (station_ok k) → page_at (sheet_at done a) k ≡ encode_page (part k)
      page k s = by_value (in_group γ a k)
          (λ y. inside_page a u q k s y ∙ ap encode_page (sym (rw y)))
          (λ y. outside_page a u q k s y ∙ ap encode_page (sym (rw y)))

  -- and of any other
  other_sheet : (a : ℕ) → T (area_number a) → names_group n γ e a ≡ false → sheet_at done a ≡ sheet_at division a
  other_sheet a u q =
      sheets_equal (sheet_at done a) (sheet_at division a) (sheet_size done a (division_step.size ∙ size) u) (sheet_size division a size u)
      (λ k s. other_page a u k s (λ z. true_T false (sym q ∙ ap (names_group n γ e) (sym z.1) ∙ named_area k z.0)))

  named_part : (a : ℕ) → names_group n γ e a ≡ true → divided_after n γ e (parts division) a ≡ divide γ now_later a
  unfolding divided_after gathered
  named_part a q = rw q

  pub division_bytes : done
      ≡ flat_map (λ a. if names_group n γ e a then encode_sheet (divided_after n γ e (parts division) a) else sheet_at division a) six
  division_bytes =
      sym (sheets_whole done (division_step.size ∙ size))
      ∙ row_same (sheet_at done) (λ a. if names_group n γ e a then encode_sheet (divided_after n γ e (parts division) a) else sheet_at division a) area_number each six all_areas
    where
      each : (a : ℕ) → T (area_number a) → sheet_at done a ≡ (if names_group n γ e a then encode_sheet (divided_after n γ e (parts division) a) else sheet_at division a)
      each a u = by_value (names_group n γ e a)
          (λ q. own_sheet a u q ∙ ap encode_sheet (sym (named_part a q)) ∙ sym (rw q))
          (λ q. other_sheet a u q ∙ sym (rw q))

-- the calls, case by case

module _ (n : Network) (e : Edit) (sheet : List ℕ) where
  pub sheet_is : sheet_refusal n e sheet ≡ 0 → (sheet_answer n e sheet ≡ answer n e (decode_sheet sheet)) × (sheet_after n e sheet ≡ encode_sheet (after n e (decode_sheet sheet)))
  unfolding sheet_answer sheet_after
  sheet_is r = (rw r, rw r)

  pub sheet_not : (k : ℕ) → sheet_refusal n e sheet ≡ k → ¬ (k ≡ 0) → (sheet_answer n e sheet ≡ refused_with k) × (sheet_after n e sheet ≡ sheet)
  unfolding sheet_answer sheet_after
  sheet_not k r z = (rw (r, ne_eqb k 0 z), rw (r, ne_eqb k 0 z))

module _ (n : Network) (e : Edit) (division : List ℕ) where
  pub division_is : division_refusal n e division ≡ 0
      → (division_answer n e division ≡ divided_answer n (area_of n) e (parts division))
      × (division_after n e division
      ≡ flat_map (λ a. if names_group n (area_of n) e a then encode_sheet (divided_after n (area_of n) e (parts division) a) else sheet_at division a) six)
  unfolding division_answer division_after
  division_is r = (rw r, rw r)

  pub division_not : (k : ℕ) → division_refusal n e division ≡ k → ¬ (k ≡ 0) → (division_answer n e division ≡ refused_with k) × (division_after n e division ≡ division)
  unfolding division_answer division_after
  division_not k r z = (rw (r, ne_eqb k 0 z), rw (r, ne_eqb k 0 z))
