-- Two sheets put together: page by page, as a loop fills them, and what the whole holds: the gathered parts of the two
-- areas. Assumes nothing.
use Prim.Native.Nat.{ℕ, ◌+◌, ◌*◌, ◌-◌, ◌<◌}
use mathlib.Core.Path.{◌≡◌, refl, sym, ap, ◌∙◌, fun_ext}
use mathlib.Core.Bool.{Bool, true, false, ◌||◌}
use mathlib.Core.List.{List}
use native.Mathlib.Omega.{arith}
use lib.Dec.{T, eqb, ltb}
use lib.ListN.{length, take, drop, length-replicate}
use borrow.Author.Tests.{eqb-true, lt-ltb}
use Rattle.std.specs.Prelude.{if◌then◌else◌}
use Rattle.base.proofs.Tests.{by_value, true_T}
use Rattle.railway.specs.Ranges.{station_ok}
use Rattle.network.specs.Networks.{area_of}
use Rattle.timetable.specs.Tables.{Table, empty}
use Rattle.timetable.specs.Machine.{Timetable}
use Rattle.timetable.specs.Groups.{merge, gather}
use Rattle.timetable.specs.Findings.{numbers_of, pair_findings, pair_list}
use Rattle.records.specs.Bytes.{zeros}
use Rattle.page.specs.Pages.{decode_page}
use Rattle.sheet.specs.Sheets.{page_at, decode_sheet}
use Rattle.page.proofs.PageLaws.{blank_back}
use Rattle.sheet.proofs.SheetLaws.{page_size, page_row, page_in, row_size, decoded_page, decoded_none}
use Rattle.findings.specs.Types.{Station, Area, Network}
use Rattle.scope.specs.declared.Scope.{Scope}
use Rattle.findings.specs.Lists.{two_parts, two_list}
use Rattle.findings.specs.between.Joined.{joined_page, joined}
use Rattle.builder.specs.between.Builder.{all_numbers}
use Rattle.findings.proofs.ListsBuilt.{pair_numbers}

module _ (n : Network) (a b : Area) (first second : List ℕ) (long : length first ≡ 8192) (tall : length second ≡ 8192) where
  chosen : Station → List ℕ
  chosen k = joined_page n a b k (page_at first k) (page_at second k)

  chosen_size : (k : Station) → T (station_ok k) → length (chosen k) ≡ 512
  unfolding chosen joined_page
  chosen_size k t = go (eqb (area_of n k) a.0) (eqb (area_of n k) b.0)
    where
      go : (x y : Bool) → length (if x then page_at first k else if y then page_at second k else zeros 512) ≡ 512
      go true y = page_size first k long t
      go false true = page_size second k tall t
      go false false = length-replicate {A = ℕ} 512 0

  pub joined_size : length (joined n a b first second) ≡ 8192
  unfolding joined chosen
  joined_size = row_size chosen chosen_size

  -- the page at an index from 0, as the loop cuts it
  pub joined_row : (i k : ℕ) → i < 16 → k ≡ i + 1
      → joined_page n a b (record { 0 = k }) (take 512 (drop (512 * i) first)) (take 512 (drop (512 * i) second)) ≡ take 512 (drop (512 * i) (joined n a b first second))
  unfolding joined chosen page_at
  joined_row i k h e =
      let same : i + 1 - 1 ≡ i = omega arith in
      sym
      (page_row chosen chosen_size i h
      ∙ ap (λ (j : ℕ). joined_page n a b (record { 0 = i + 1 }) (take 512 (drop (512 * j) first)) (take 512 (drop (512 * j) second))) same
      ∙ ap (λ (j : ℕ). joined_page n a b (record { 0 = j }) (take 512 (drop (512 * i) first)) (take 512 (drop (512 * i) second))) (sym e))

  -- what it holds
  module _ (up : 0 < a.0) (rise : 0 < b.0) where
    abbrev both : Timetable
    both = gather (area_of n) (λ x. eqb x a.0 || eqb x b.0) (two_parts first second a b)

    -- the table of a station: from the first, from the second, or bare
    abbrev table_by : Bool → Bool → Station → Table
    table_by x y k = if x then decode_sheet first k else if y then decode_sheet second k else empty

    both_at : (k : Station) → both k ≡ table_by (eqb (area_of n k) a.0) (eqb (area_of n k) b.0) k
    unfolding gather merge two_parts
    both_at k = go (eqb (area_of n k) a.0) (eqb (area_of n k) b.0) refl refl
      where
        go : (x y : Bool) → eqb (area_of n k) a.0 ≡ x → eqb (area_of n k) b.0 ≡ y
            → (if x || y then (if ltb 0 (area_of n k) then (if x then decode_sheet first else if y then decode_sheet second else λ j. empty) k else empty) else empty) ≡ table_by x y k
        go true y p q = rw (lt-ltb 0 (area_of n k) (omega (arith, eqb-true (area_of n k) a.0 p)))
        go false true p q = rw (lt-ltb 0 (area_of n k) (omega (arith, eqb-true (area_of n k) b.0 q)))
        go false false p q = refl

    joined_at : (k : Station) → decode_sheet (joined n a b first second) k ≡ table_by (eqb (area_of n k) a.0) (eqb (area_of n k) b.0) k
    unfolding joined joined_page chosen
    joined_at k =
        by_value (station_ok k)
        (λ e.
        let t = true_T (station_ok k) e in
        decoded_page (joined n a b first second) k t ∙ ap decode_page (page_in chosen chosen_size k t) ∙ paged t (eqb (area_of n k) a.0) (eqb (area_of n k) b.0))
        (λ e. decoded_none (joined n a b first second) k e ∙ bare e (eqb (area_of n k) a.0) (eqb (area_of n k) b.0))
      where
        paged : T (station_ok k) → (x y : Bool) → decode_page (if x then page_at first k else if y then page_at second k else zeros 512) ≡ table_by x y k
        paged t true y = sym (decoded_page first k t)
        paged t false true = sym (decoded_page second k t)
        paged t false false = blank_back

        bare : station_ok k ≡ false → (x y : Bool) → empty ≡ table_by x y k
        bare e true y = sym (decoded_none first k e)
        bare e false true = sym (decoded_none second k e)
        bare e false false = refl

    joined_holds : decode_sheet (joined n a b first second) ≡ both
    joined_holds = fun_ext (λ k. joined_at k ∙ sym (both_at k))

    pub joined_numbers : all_numbers n (Scope.Between a b) (decode_sheet (joined n a b first second)) ≡ two_list n first second a b
    unfolding two_list pair_list
    joined_numbers =
        sym (pair_numbers n (decode_sheet (joined n a b first second)) a b)
        ∙ ap (λ (m : Timetable). numbers_of (pair_findings n (area_of n) m a.0 b.0)) joined_holds
