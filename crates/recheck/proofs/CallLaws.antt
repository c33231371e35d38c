-- The calls: which refusal each test brings, where the network is tested once; and that the list which is written where
-- nothing refuses is the update. Assumes nothing.
use Prim.Native.Nat.{ℕ}
use mathlib.Core.Path.{◌≡◌, refl, sym, ◌∙◌, ap, fun_ext}
use mathlib.Core.Bool.{Bool, true, false, false≢true, not}
use Rattle.std.specs.Prelude.{Result, Ok, Err}
use Rattle.std.specs.Result.{is_err}
use Rattle.base.specs.RefusalNumbers.{refusal_number}
use Rattle.base.specs.declared.refusal.Refusal.{Refusal}
use Rattle.timetable.proofs.OutputLaws.{number_there}
use mathlib.Core.List.{List}
use lib.Dec.{T, eqb}
use lib.ListN.{length}
use borrow.Author.Tests.{eqb-true, eqb-false}
use Rattle.base.specs.Choice.{◌if◌else◌}
use Rattle.base.specs.Lists.{keep}
use Rattle.base.proofs.Tests.{by_value, held, T_true}
use Rattle.railway.specs.Ranges.{area_ok}
use Rattle.network.specs.Networks.{network_refusal, listed, area_of}
use Rattle.timetable.specs.Machine.{meaning, edit_refusal}
use Rattle.timetable.specs.Refusals.{or_else, early, call_refusal}
use Rattle.timetable.specs.Findings.{numbers_of, findings, group_findings}
use Rattle.timetable.specs.Recheck.{stale, list_rises, updated_numbers}
use Rattle.timetable.proofs.RefusalLaws.{or_first, or_later, or_passed, early_both, early_passed, call_early, call_late, call_passed, early_not, early_only}
use Rattle.actions.specs.Early.{unknown_refusal, early_refusal}
use Rattle.actions.specs.between.Shapes.{shape_of}
use Rattle.actions.proofs.EarlyLaws.{Early, early_facts}
use Rattle.sheet.specs.Sheets.{decode_sheet, good_sheet}
use Rattle.sheet.specs.declared.test.Extent.{Extent}
use Rattle.sheet.specs.between.Passes.{sheet_passes}
use Rattle.sheet.proofs.PassLaws.{whole_test}
use Rattle.scope.specs.declared.Scope.{Scope}
use Rattle.builder.specs.between.Builder.{redone_numbers}
use Rattle.findings.specs.Lists.{good_part}
use Rattle.findings.proofs.ListCalls.{part_test}
use Rattle.findings.proofs.RedoneBuilt.{redone, redone_whole, redone_within}
use Rattle.recheck.specs.Types.{Area, Edit, Network, Finding, Marks}
use Rattle.recheck.specs.between.Marks.{marks_of}
use Rattle.recheck.specs.between.Kept.{Ordered, list_with}
use Rattle.recheck.specs.Rechecks.{list_refusal, recheck_refusal, recheck_list, own_refusal, area_recheck_refusal, area_recheck_list}
use Rattle.findings.specs.between.Extents.{extent_known, scope_of}
use Rattle.recheck.specs.between.Extents.{extent_own, extent_refusal, extent_list}
use Rattle.recheck.proofs.MarkLaws.{marks_redo, list_updated}
use Rattle.recheck.proofs.RisingLaws.{rising_ordered}

-- a result that is an error has a number

pub err_told : {T : Type 0} (r : Result T Refusal) → is_err r ≡ true → ¬ (refusal_number r ≡ 0)
err_told (Ok x) e z = false≢true e
err_told (Err r) e z = number_there r z

pub ok_told : {T : Type 0} (r : Result T Refusal) → is_err r ≡ false → refusal_number r ≡ 0
ok_told (Ok x) e = refl
ok_told (Err r) e = absurd (false≢true (sym e))

-- what refuses, test by test: own, network and both are what refuses early

module _ (own network both : ℕ) where
  module _ (fits : Bool) (fit : fits ≡ true) (good : Bool) (late : ℕ) where
    pub refused_early : ¬ (early own 0 both ≡ 0) → call_refusal fits (early own network both) good late ≡ early own network both
    refused_early h = call_early fits (early own network both) good late fit (early_not own network both h)

    module _ (h : early own 0 both ≡ 0) (k : ℕ) (e : k ≡ or_else network (6 if not good else 0)) where
      -- the test of the sheet refuses
      pub refused-later : ¬ (k ≡ 0) → call_refusal fits (early own network both) good late ≡ k
      unfolding call_refusal
      refused-later z =
          rw (fit, early_only own network both h)
          (by_value (eqb network 0)
          (λ t. let q = eqb-true network 0 t in
          or_later network (6 if not good else late) q ∙ bad good (λ y. z (e ∙ or_later network (6 if not good else 0) q ∙ y)) ∙ sym (or_later network (6 if not good else 0) q) ∙ sym e)
          (λ t. let q = eqb-false network 0 t in
          or_first network (6 if not good else late) q ∙ sym (or_first network (6 if not good else 0) q) ∙ sym e))
        where
          bad : (b : Bool) → ¬ ((6 if not b else 0) ≡ 0) → (6 if not b else late) ≡ (6 if not b else 0)
          bad true y = absurd (y refl)
          bad false y = refl

      -- it does not, so that what is late refuses
      pub refused-late : k ≡ 0 → call_refusal fits (early own network both) good late ≡ late
      refused-late z =
          let x = or_passed network (6 if not good else 0) (sym e ∙ z) in
          call_late fits (early own network both) good late fit (early_only own network both h ∙ x.0) (T_true good (held 5 good 0 x.1))

-- the list is looked at last

module _ (list : List ℕ) where
  pub list_fine : list_rises list ≡ true → list_refusal list ≡ 0
  unfolding list_refusal
  list_fine e = rw e

  list_passed : list_refusal list ≡ 0 → Ordered list
  unfolding list_refusal
  list_passed z = rising_ordered list (T_true (list_rises list) (held 2 (list_rises list) 0 z))

  pub list_wrong : list_rises list ≡ false → list_refusal list ≡ 3
  unfolding list_refusal
  list_wrong e = rw e

-- 3 of the area or the edit

module _ (a : Area) (e : Edit) where
  pub own_edit : area_ok a ≡ true → own_refusal a e ≡ edit_refusal e
  unfolding own_refusal
  own_edit q = rw q

  pub own_area : area_ok a ≡ false → own_refusal a e ≡ 3
  unfolding own_refusal
  own_area q = rw q

-- a call that refuses as what the code tests: the sheet's test is asked where it decides

call_same : (fits : Bool) (k : ℕ) (pass good : Bool) (late : ℕ) → (fits ≡ true → k ≡ 0 → pass ≡ good) → call_refusal fits k pass late ≡ call_refusal fits k good late
unfolding call_refusal or_else
call_same false k pass good late h = refl
call_same true k pass good late h =
    by_value (eqb k 0) (λ t. ap (λ (b : Bool). call_refusal true k b late) (h refl (eqb-true k 0 t))) (λ t. rw t)

-- what the code marks
abbrev edit_marks : Network → Edit → Marks
edit_marks n e = marks_of n (shape_of (meaning e))

-- the redone findings of a list are the stale ones, so the list that is written is the update
module _ (n : Network) (e : Edit) (facts : Early n e) (found : List Finding) where
  redone_stale : keep (redone (edit_marks n e)) found ≡ keep (stale n e) found
  unfolding stale
  redone_stale = ap (λ p. keep p found) (fun_ext (λ f. marks_redo n facts.network e facts.ok facts.fits f.station.0 f.rule))

  updated_so : (list xs : List ℕ) → xs ≡ numbers_of (keep (redone (edit_marks n e)) found) → list_with (edit_marks n e) list xs ≡ updated_numbers n e list found
  updated_so list xs q =
      ap (list_with (edit_marks n e) list) (q ∙ ap numbers_of redone_stale) ∙ list_updated n facts.network e facts.ok facts.fits list found

module _ (n : Network) (e : Edit) (sheet list : List ℕ) where
  abbrev long : Bool
  long = eqb (length sheet) 8192

  pub whole_refused : call_refusal long (early (edit_refusal e) (network_refusal n) (unknown_refusal n e)) (sheet_passes n Extent.Whole sheet) (list_refusal list) ≡ recheck_refusal n e sheet list
  unfolding recheck_refusal early_refusal
  whole_refused =
      call_same long _ (sheet_passes n Extent.Whole sheet) (good_sheet n (listed n) sheet) (list_refusal list) (λ l z. whole_test n sheet (eqb-true (length sheet) 8192 l))

  -- what is known where nothing refuses
  pub whole_passed : recheck_refusal n e sheet list ≡ 0 → (length sheet ≡ 8192) × Early n e × Ordered list
  unfolding recheck_refusal
  whole_passed z =
      let p = call_passed long (early_refusal n e) (good_sheet n (listed n) sheet) (list_refusal list) z in
      (eqb-true (length sheet) 8192 p.0, early_facts n e p.1, list_passed list p.3)

  pub whole_updated : recheck_refusal n e sheet list ≡ 0
      → list_with (edit_marks n e) list (redone_numbers n Scope.Whole (edit_marks n e) (decode_sheet sheet)) ≡ recheck_list n e sheet list
  unfolding recheck_list
  whole_updated z =
      updated_so n e (whole_passed z).1 (findings n (decode_sheet sheet)) list _ (redone_whole n (edit_marks n e) (decode_sheet sheet))

  module _ (a : Area) where
    abbrev first : ℕ
    first = early (own_refusal a e) (network_refusal n) (unknown_refusal n e)

    -- what is known where nothing refuses early
    area_facts : first ≡ 0 → T (area_ok a) × Early n e
    unfolding own_refusal early_refusal
    area_facts z =
        let x = early_passed (own_refusal a e) (network_refusal n) (unknown_refusal n e) z in
        let ok = held 2 (area_ok a) (edit_refusal e) x.0 in
        let mine : edit_refusal e ≡ 0 = sym (own_edit a e (T_true (area_ok a) ok)) ∙ x.0 in
        (ok, early_facts n e (early_both (edit_refusal e) (network_refusal n) (unknown_refusal n e) mine x.1 ∙ x.2))

    pub area_refused : call_refusal long first (sheet_passes n (Extent.Of a) sheet) (list_refusal list) ≡ area_recheck_refusal n e a sheet list
    unfolding area_recheck_refusal
    area_refused =
        call_same long first (sheet_passes n (Extent.Of a) sheet) (good_part n a sheet) (list_refusal list)
        (λ l z. part_test n a sheet (area_facts z).0 (eqb-true (length sheet) 8192 l))

    pub area_passed : area_recheck_refusal n e a sheet list ≡ 0 → (length sheet ≡ 8192) × Early n e × Ordered list
    unfolding area_recheck_refusal
    area_passed z =
        let p = call_passed long first (good_part n a sheet) (list_refusal list) z in
        (eqb-true (length sheet) 8192 p.0, (area_facts p.1).1, list_passed list p.3)

    pub area_updated : area_recheck_refusal n e a sheet list ≡ 0
        → list_with (edit_marks n e) list (redone_numbers n (Scope.Within a) (edit_marks n e) (decode_sheet sheet)) ≡ area_recheck_list n e a sheet list
    unfolding area_recheck_list
    area_updated z =
        updated_so n e (area_passed z).1 (group_findings n (area_of n) (decode_sheet sheet) a.0) list _ (redone_within n (edit_marks n e) (decode_sheet sheet) a)

-- by the extent

pub own_by : (extent : Extent) (e : Edit) → extent_own extent e ≡ (3 if not (extent_known extent) else edit_refusal e)
unfolding own_refusal
own_by Extent.Whole e = refl
own_by (Extent.Of a) e = refl

module _ (n : Network) (e : Edit) where
  pub extent_refused : (extent : Extent) (sheet list : List ℕ)
      → call_refusal (eqb (length sheet) 8192) (early (extent_own extent e) (network_refusal n) (unknown_refusal n e)) (sheet_passes n extent sheet) (list_refusal list)
      ≡ extent_refusal n e extent sheet list
  extent_refused Extent.Whole sheet list = whole_refused n e sheet list
  extent_refused (Extent.Of a) sheet list = area_refused n e sheet list a

  pub extent_passed : (extent : Extent) (sheet list : List ℕ) → extent_refusal n e extent sheet list ≡ 0 → (length sheet ≡ 8192) × Early n e × Ordered list
  extent_passed Extent.Whole sheet list z = whole_passed n e sheet list z
  extent_passed (Extent.Of a) sheet list z = area_passed n e sheet list a z

  pub extent_updated : (extent : Extent) (sheet list : List ℕ) → extent_refusal n e extent sheet list ≡ 0
      → list_with (edit_marks n e) list (redone_numbers n (scope_of extent) (edit_marks n e) (decode_sheet sheet)) ≡ extent_list n e extent sheet list
  extent_updated Extent.Whole sheet list z = whole_updated n e sheet list z
  extent_updated (Extent.Of a) sheet list z = area_updated n e sheet list a z
