-- The calls: which refusal each test brings, and what is written where none does. Assumes nothing.
use Prim.Native.Nat.{ℕ, ◌+◌, ◌≤◌, ◌<◌}
use mathlib.Core.Path.{◌≡◌, refl, sym, ap₂, ◌∙◌}
use mathlib.Core.Bool.{Bool, true, false, not, ◌&&◌}
use mathlib.Core.List.{List}
use mathlib.Core.Logic.{by_cases}
use native.Mathlib.Decide.{ℕ_discrete}
use native.Mathlib.Omega.{arith}
use lib.Dec.{T, eqb}
use lib.ListN.{length}
use borrow.Author.Tests.{eqb-true, eq-eqb, ne_eqb}
use Rattle.base.specs.Choice.{◌if◌else◌}
use Rattle.base.proofs.Tests.{T_true, true_T, and_l, and_r, held}
use Rattle.railway.specs.Ranges.{area_ok}
use Rattle.network.specs.Networks.{network_refusal, listed}
use Rattle.timetable.specs.Outputs.{put}
use Rattle.sheet.specs.Sheets.{decode_sheet, good_sheet}
use Rattle.sheet.specs.declared.test.Extent.{Extent}
use Rattle.sheet.specs.between.Passes.{sheet_passes}
use Rattle.sheet.proofs.PassLaws.{whole_test, area_test}
use Rattle.sheet.proofs.FillLaws.{area_bounds}
use Rattle.findings.specs.Types.{Area, Network, OutputError}
use Rattle.findings.specs.between.Extents.{extent_known, scope_of, extent_list, extent_refusal}
use Rattle.scope.specs.declared.Scope.{Scope}
use Rattle.findings.specs.Lists.{sheet_list, area_list, two_list, Answers, list_early, good_part, sheet_list_refusal, area_list_refusal, two_areas, two_list_refusal}
use Rattle.findings.specs.between.Joined.{joined}
use Rattle.builder.specs.between.Builder.{all_numbers}
use Rattle.timetable.proofs.RefusalLaws.{early_own_range, early_network, early_both, early_passed, call_short, call_early, call_bad, call_late, call_passed}
use Rattle.timetable.proofs.OutputLaws.{short_of, filled}
use Rattle.std.specs.Prelude.{Result, Ok, Err}
use Rattle.findings.proofs.ListsBuilt.{whole_numbers, area_numbers}
use Rattle.findings.proofs.JointLaws.{joined_numbers}

module _ (xs buffer : List ℕ) where
  pub too_short : (r : ℕ) → r ≡ 0 + length xs → length buffer < r → Answers 0 xs buffer (Err (OutputError.TooShort r)) buffer
  too_short r e h = short_of xs buffer r (omega (arith, e)) h

  pub written : (r : ℕ) (after : List ℕ) → r ≡ 0 + length xs → r ≤ length buffer → after ≡ put 0 xs buffer → Answers 0 xs buffer (Ok r) after
  written r after e h p = let x = filled xs buffer r (omega (arith, e)) h in (x.0, p ∙ x.1)

-- by the refusal that the tests brought
pub answers_as : (k j : ℕ) (xs ys buffer after : List ℕ) (r : Result ℕ OutputError) → k ≡ j → xs ≡ ys → Answers k xs buffer r after → Answers j ys buffer r after
answers_as k j xs ys buffer after r e f a = rw (← e, ← f) a

-- before the sheets are looked at: by whether the areas are in range
module _ (n : Network) (ok : Bool) where
  pub early_of_areas : ok ≡ false → list_early n ok ≡ 3
  unfolding list_early
  early_of_areas e = early_own_range (3 if not ok else 0) (network_refusal n) 0 (rw e)

  pub early_network_alone : ok ≡ true → list_early n ok ≡ network_refusal n
  unfolding list_early
  early_network_alone e =
      let none : (3 if not ok else 0) ≡ 0 = rw e in
      by_cases (ℕ_discrete (network_refusal n) 0)
      (λ z. early_both (3 if not ok else 0) (network_refusal n) 0 none z ∙ sym z)
      (λ z. early_network (3 if not ok else 0) (network_refusal n) 0 none z)

  pub early_fine : list_early n ok ≡ 0 → T ok × (network_refusal n ≡ 0)
  unfolding list_early
  early_fine e = let p = early_passed (3 if not ok else 0) (network_refusal n) 0 e in (held 2 ok 0 p.0, p.1)

-- of a sheet
module _ (n : Network) (sheet : List ℕ) where
  pub sheet_short : ¬ (length sheet ≡ 8192) → 5 ≡ sheet_list_refusal n sheet
  unfolding sheet_list_refusal
  sheet_short h = sym (call_short (eqb (length sheet) 8192) (network_refusal n) (good_sheet n (listed n) sheet) 0 (ne_eqb (length sheet) 8192 h))

  module _ (long : length sheet ≡ 8192) where
    pub sheet_early : (k : ℕ) → k ≡ network_refusal n → ¬ (k ≡ 0) → k ≡ sheet_list_refusal n sheet
    unfolding sheet_list_refusal
    sheet_early k e h = e ∙ sym (call_early (eqb (length sheet) 8192) (network_refusal n) (good_sheet n (listed n) sheet) 0 (eq-eqb (length sheet) 8192 long) (λ z. h (e ∙ z)))

    pub sheet_bad : network_refusal n ≡ 0 → sheet_passes n Extent.Whole sheet ≡ false → 6 ≡ sheet_list_refusal n sheet
    unfolding sheet_list_refusal
    sheet_bad e p = sym (call_bad (eqb (length sheet) 8192) (network_refusal n) (good_sheet n (listed n) sheet) 0 (eq-eqb (length sheet) 8192 long) e (sym (whole_test n sheet long) ∙ p))

    pub sheet_good : network_refusal n ≡ 0 → sheet_passes n Extent.Whole sheet ≡ true → 0 ≡ sheet_list_refusal n sheet
    unfolding sheet_list_refusal
    sheet_good e p = sym (call_late (eqb (length sheet) 8192) (network_refusal n) (good_sheet n (listed n) sheet) 0 (eq-eqb (length sheet) 8192 long) e (sym (whole_test n sheet long) ∙ p))

  pub sheet_size : sheet_list_refusal n sheet ≡ 0 → length sheet ≡ 8192
  unfolding sheet_list_refusal
  sheet_size z = eqb-true (length sheet) 8192 (call_passed (eqb (length sheet) 8192) (network_refusal n) (good_sheet n (listed n) sheet) 0 z).0

  pub sheet_numbers : all_numbers n Scope.Whole (decode_sheet sheet) ≡ sheet_list n sheet
  unfolding sheet_list
  sheet_numbers = sym (whole_numbers n (decode_sheet sheet))

-- of an area

-- an area that brings no 3 is above 0
area_up : (a : Area) → T (area_ok a) → 0 < a.0
area_up a t = omega (arith, (area_bounds a.0 (T_true (area_ok a) t)).0)

pub part_test : (n : Network) (a : Area) (sheet : List ℕ) → T (area_ok a) → length sheet ≡ 8192 → sheet_passes n (Extent.Of a) sheet ≡ good_part n a sheet
unfolding good_part
part_test n a sheet t long = area_test n a sheet (area_up a t) long

module _ (n : Network) (sheet : List ℕ) (a : Area) where
  abbrev area_first : ℕ
  area_first = list_early n (area_ok a)

  pub area_short : ¬ (length sheet ≡ 8192) → 5 ≡ area_list_refusal n sheet a
  unfolding area_list_refusal
  area_short h = sym (call_short (eqb (length sheet) 8192) area_first (good_part n a sheet) 0 (ne_eqb (length sheet) 8192 h))

  module _ (long : length sheet ≡ 8192) (k : ℕ) (e : k ≡ area_first) where
    pub area_early : ¬ (k ≡ 0) → k ≡ area_list_refusal n sheet a
    unfolding area_list_refusal
    area_early h = e ∙ sym (call_early (eqb (length sheet) 8192) area_first (good_part n a sheet) 0 (eq-eqb (length sheet) 8192 long) (λ z. h (e ∙ z)))

    module _ (z : k ≡ 0) where
      passed : sheet_passes n (Extent.Of a) sheet ≡ good_part n a sheet
      passed = part_test n a sheet (early_fine n (area_ok a) (sym e ∙ z)).0 long

      pub area-bad : sheet_passes n (Extent.Of a) sheet ≡ false → 6 ≡ area_list_refusal n sheet a
      unfolding area_list_refusal
      area-bad p = sym (call_bad (eqb (length sheet) 8192) area_first (good_part n a sheet) 0 (eq-eqb (length sheet) 8192 long) (sym e ∙ z) (sym passed ∙ p))

      pub area-good : sheet_passes n (Extent.Of a) sheet ≡ true → 0 ≡ area_list_refusal n sheet a
      unfolding area_list_refusal
      area-good p = sym (call_late (eqb (length sheet) 8192) area_first (good_part n a sheet) 0 (eq-eqb (length sheet) 8192 long) (sym e ∙ z) (sym passed ∙ p))

  pub area_size : area_list_refusal n sheet a ≡ 0 → length sheet ≡ 8192
  unfolding area_list_refusal
  area_size z = eqb-true (length sheet) 8192 (call_passed (eqb (length sheet) 8192) area_first (good_part n a sheet) 0 z).0

  pub area_numbers_are : all_numbers n (Scope.Within a) (decode_sheet sheet) ≡ area_list n sheet a
  unfolding area_list
  area_numbers_are = sym (area_numbers n (decode_sheet sheet) a)

-- by the extent

module _ (n : Network) where
  whole_early : network_refusal n ≡ list_early n true
  whole_early = sym (early_network_alone n true refl)

  pub extent_short : (extent : Extent) (sheet : List ℕ) → ¬ (length sheet ≡ 8192) → 5 ≡ extent_refusal n extent sheet
  extent_short Extent.Whole sheet h = sheet_short n sheet h
  extent_short (Extent.Of a) sheet h = area_short n sheet a h

  pub extent_early : (extent : Extent) (sheet : List ℕ) → length sheet ≡ 8192 → (k : ℕ) → k ≡ list_early n (extent_known extent) → ¬ (k ≡ 0) → k ≡ extent_refusal n extent sheet
  extent_early Extent.Whole sheet long k e h = sheet_early n sheet long k (e ∙ sym whole_early) h
  extent_early (Extent.Of a) sheet long k e h = area_early n sheet a long k e h

  pub extent_bad : (extent : Extent) (sheet : List ℕ) → length sheet ≡ 8192 → list_early n (extent_known extent) ≡ 0 → sheet_passes n extent sheet ≡ false → 6 ≡ extent_refusal n extent sheet
  extent_bad Extent.Whole sheet long z p = sheet_bad n sheet long (whole_early ∙ z) p
  extent_bad (Extent.Of a) sheet long z p = area-bad n sheet a long (area_first n sheet a) refl z p

  pub extent_good : (extent : Extent) (sheet : List ℕ) → length sheet ≡ 8192 → list_early n (extent_known extent) ≡ 0 → sheet_passes n extent sheet ≡ true → 0 ≡ extent_refusal n extent sheet
  extent_good Extent.Whole sheet long z p = sheet_good n sheet long (whole_early ∙ z) p
  extent_good (Extent.Of a) sheet long z p = area-good n sheet a long (area_first n sheet a) refl z p

  pub extent_size : (extent : Extent) (sheet : List ℕ) → extent_refusal n extent sheet ≡ 0 → length sheet ≡ 8192
  extent_size Extent.Whole sheet z = sheet_size n sheet z
  extent_size (Extent.Of a) sheet z = area_size n sheet a z

  pub extent_numbers : (extent : Extent) (sheet : List ℕ) → all_numbers n (scope_of extent) (decode_sheet sheet) ≡ extent_list n extent sheet
  extent_numbers Extent.Whole sheet = sheet_numbers n sheet
  extent_numbers (Extent.Of a) sheet = area_numbers_are n sheet a

-- of two areas

module _ (n : Network) (first second : List ℕ) (a b : Area) where
  abbrev two_first : ℕ
  two_first = list_early n (two_areas a b)

  abbrev both_long : Bool
  both_long = eqb (length first) 8192 && eqb (length second) 8192

  abbrev both_good : Bool
  both_good = good_part n a first && good_part n b second

  pub two_short : ¬ (length first ≡ 8192) → 5 ≡ two_list_refusal n first second a b
  unfolding two_list_refusal
  two_short h = sym (call_short both_long two_first both_good 0 (rw (ne_eqb (length first) 8192 h)))

  module _ (long : length first ≡ 8192) where
    pub two_short_second : ¬ (length second ≡ 8192) → 5 ≡ two_list_refusal n first second a b
    unfolding two_list_refusal
    two_short_second h = sym (call_short both_long two_first both_good 0 (rw (eq-eqb (length first) 8192 long, ne_eqb (length second) 8192 h)))

    module _ (tall : length second ≡ 8192) where
      fit : both_long ≡ true
      fit = rw (eq-eqb (length first) 8192 long, eq-eqb (length second) 8192 tall)

      module _ (k : ℕ) (e : k ≡ two_first) where
        pub two-early : ¬ (k ≡ 0) → k ≡ two_list_refusal n first second a b
        unfolding two_list_refusal
        two-early h = e ∙ sym (call_early both_long two_first both_good 0 fit (λ z. h (e ∙ z)))

        module _ (z : k ≡ 0) where
          two_ok : T (two_areas a b)
          two_ok = (early_fine n (two_areas a b) (sym e ∙ z)).0

          first_ok : T (area_ok a)
          unfolding two_areas
          first_ok = and_l (area_ok a) (area_ok b && not (eqb a.0 b.0)) two_ok

          second_ok : T (area_ok b)
          unfolding two_areas
          second_ok = and_l (area_ok b) (not (eqb a.0 b.0)) (and_r (area_ok a) (area_ok b && not (eqb a.0 b.0)) two_ok)

          both_passed : (sheet_passes n (Extent.Of a) first && sheet_passes n (Extent.Of b) second) ≡ both_good
          both_passed = ap₂ (λ (x y : Bool). x && y) (part_test n a first first_ok long) (part_test n b second second_ok tall)

          pub two-bad : (sheet_passes n (Extent.Of a) first && sheet_passes n (Extent.Of b) second) ≡ false → 6 ≡ two_list_refusal n first second a b
          unfolding two_list_refusal
          two-bad p = sym (call_bad both_long two_first both_good 0 fit (sym e ∙ z) (sym both_passed ∙ p))

          pub two_good : (sheet_passes n (Extent.Of a) first && sheet_passes n (Extent.Of b) second) ≡ true → 0 ≡ two_list_refusal n first second a b
          unfolding two_list_refusal
          two_good p = sym (call_late both_long two_first both_good 0 fit (sym e ∙ z) (sym both_passed ∙ p))

          pub two-numbers : all_numbers n (Scope.Between a b) (decode_sheet (joined n a b first second)) ≡ two_list n first second a b
          two-numbers = joined_numbers n a b first second long tall (area_up a first_ok) (area_up b second_ok)

  -- what is known where nothing refuses
  pub two_passed : two_list_refusal n first second a b ≡ 0 → (length first ≡ 8192) × (length second ≡ 8192) × (two_first ≡ 0)
  unfolding two_list_refusal
  two_passed z =
      let p = call_passed both_long two_first both_good 0 z in
      let t = true_T both_long p.0 in (
        eqb-true (length first) 8192 (T_true (eqb (length first) 8192) (and_l (eqb (length first) 8192) (eqb (length second) 8192) t)),
        eqb-true (length second) 8192 (T_true (eqb (length second) 8192) (and_r (eqb (length first) 8192) (eqb (length second) 8192) t)),
        p.1,
      )
