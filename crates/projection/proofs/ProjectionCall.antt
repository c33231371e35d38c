-- The call after each test of the code: what refuses it, what it answers, and what the buffer then holds. Assumes
-- nothing.
use Prim.Native.Nat.{ℕ}
use mathlib.Core.Path.{◌≡◌, sym, ◌∙◌}
use mathlib.Core.Bool.{true, false, not}
use mathlib.Core.List.{List}
use Rattle.std.specs.Prelude.{None, Some}
use lib.Dec.{eqb}
use lib.IntN.{ℤ}
use lib.ListN.{length}
use borrow.Author.Tests.{eq-eqb, ne_eqb}
use Rattle.std.specs.Prelude.{Option, None, Some, Result, Err, is_some}
use Rattle.base.specs.RefusalNumbers.{number_of}
use Rattle.base.specs.declared.refusal.Refusal.TheVariants.{WrongLength, BadSheet, Missing}
use Rattle.base.specs.Choice.{◌if◌else◌}
use Rattle.network.specs.Networks.{network_refusal, listed}
use Rattle.timetable.specs.Tables.{visit_of, has_visit}
use Rattle.timetable.specs.Projection.{projection}
use Rattle.timetable.specs.Outputs.{reply_of, output, output_after}
use Rattle.sheet.specs.Sheets.{decode_sheet, good_sheet}
use Rattle.sheet.specs.declared.test.Extent.{Extent}
use Rattle.sheet.specs.between.Passes.{sheet_passes}
use Rattle.sheet.proofs.PassLaws.{whole_test}
use Rattle.projection.specs.Types.{Refusal, OutputError, Station, Train, Minute, Visit, Network}
use Rattle.projection.specs.Numbers.{arrival_numbers}
use Rattle.projection.specs.Calls.{values_fit, early_refusal, visit_refusal, project_refusal, projected, project_answer, project_after}
use Rattle.timetable.proofs.RefusalLaws as refusals
use Rattle.timetable.proofs.OutputLaws.{number_there, refused_with}

-- before the sheet is looked at
module _ (n : Network) (s : Station) (t : Train) (a : Minute) where
  pub early_values : values_fit s t a ≡ false → 3 ≡ early_refusal n s t a
  unfolding early_refusal
  early_values q = sym (refusals.early_own_range (3 if not (values_fit s t a) else 0) (network_refusal n) (7 if not (listed n s) else 0) (rw q))

  -- values that fit refuse nothing
  fit_none : values_fit s t a ≡ true → (3 if not (values_fit s t a) else 0) ≡ 0
  fit_none q = rw q

  pub early_network : (r : Refusal) → values_fit s t a ≡ true → number_of r ≡ network_refusal n → number_of r ≡ early_refusal n s t a
  unfolding early_refusal
  early_network r q e =
      e ∙ sym (refusals.early_network (3 if not (values_fit s t a) else 0) (network_refusal n) (7 if not (listed n s) else 0) (fit_none q) (λ x. number_there r (e ∙ x)))

  early_place : values_fit s t a ≡ true → network_refusal n ≡ 0 → early_refusal n s t a ≡ (7 if not (listed n s) else 0)
  unfolding early_refusal
  early_place q r = refusals.early_both (3 if not (values_fit s t a) else 0) (network_refusal n) (7 if not (listed n s) else 0) (fit_none q) r

  pub early_unknown : values_fit s t a ≡ true → network_refusal n ≡ 0 → listed n s ≡ false → 7 ≡ early_refusal n s t a
  early_unknown q r f = sym (early_place q r ∙ rw f)

  pub early_none : values_fit s t a ≡ true → network_refusal n ≡ 0 → listed n s ≡ true → 0 ≡ early_refusal n s t a
  early_none q r f = sym (early_place q r ∙ rw f)

-- the rows

module _ (s : Station) (t : Train) (a : Minute) (sheet : List ℕ) where
  pub from_first : (k : ℕ) → k ≡ a.0 → arrival_numbers 16 sheet t s k ≡ projected s t a sheet
  unfolding arrival_numbers projected projection
  from_first k e = rw e

  visit_missing : visit_of t (decode_sheet sheet s) ≡ None → visit_refusal s t sheet ≡ 9
  unfolding visit_refusal has_visit
  visit_missing e = rw e

  visit_there : (v : Visit) → visit_of t (decode_sheet sheet s) ≡ Some v → visit_refusal s t sheet ≡ 0
  unfolding visit_refusal has_visit
  visit_there v e = rw e

  -- by the test whether there is none
  pub visit_tested : (found : Option Visit) → found ≡ visit_of t (decode_sheet sheet s) → visit_refusal s t sheet ≡ (9 if not (is_some found) else 0)
  visit_tested None e = visit_missing (sym e)
  visit_tested (Some v) e = visit_there v (sym e)

-- the whole call

module _ (n : Network) (s : Station) (t : Train) (a : Minute) (sheet : List ℕ) (b : List ℤ) where
  -- the answer and the buffer afterwards
  abbrev Answers : Result ℕ OutputError → List ℤ → Type 0
  Answers r later = (reply_of r ≡ project_answer n s t a sheet b) × (later ≡ project_after n s t a sheet b)

  refused : (r : Refusal) → project_refusal n s t a sheet ≡ number_of r → Answers (Err (OutputError.Refused r)) b
  unfolding project_answer project_after
  refused r e = rw e (refused_with (projected s t a sheet) b r)

  pub call_short : ¬ (length sheet ≡ 8192) → Answers (Err (OutputError.Refused WrongLength)) b
  unfolding project_refusal
  call_short h = refused WrongLength (refusals.call_short (eqb (length sheet) 8192) (early_refusal n s t a) (good_sheet n (listed n) sheet) (visit_refusal s t sheet) (ne_eqb (length sheet) 8192 h))

  module _ (size : length sheet ≡ 8192) where
    pub call_early : (r : Refusal) → number_of r ≡ early_refusal n s t a → Answers (Err (OutputError.Refused r)) b
    unfolding project_refusal
    call_early r q =
        refused r
        (refusals.call_early (eqb (length sheet) 8192) (early_refusal n s t a) (good_sheet n (listed n) sheet) (visit_refusal s t sheet) (eq-eqb (length sheet) 8192 size) (λ x. number_there r (q ∙ x))
        ∙ sym q)

    module _ (early : early_refusal n s t a ≡ 0) where
      pub call_bad : sheet_passes n Extent.Whole sheet ≡ false → Answers (Err (OutputError.Refused BadSheet)) b
      unfolding project_refusal
      call_bad e =
          refused BadSheet
          (refusals.call_bad (eqb (length sheet) 8192) (early_refusal n s t a) (good_sheet n (listed n) sheet) (visit_refusal s t sheet)
          (eq-eqb (length sheet) 8192 size) early (sym (whole_test n sheet size) ∙ e))

      module _ (pass : sheet_passes n Extent.Whole sheet ≡ true) where
        late : project_refusal n s t a sheet ≡ visit_refusal s t sheet
        unfolding project_refusal
        late =
            refusals.call_late (eqb (length sheet) 8192) (early_refusal n s t a) (good_sheet n (listed n) sheet) (visit_refusal s t sheet)
            (eq-eqb (length sheet) 8192 size) early (sym (whole_test n sheet size) ∙ pass)

        module _ (found : Option Visit) (e : found ≡ visit_of t (decode_sheet sheet s)) where
          pub call_missing : is_some found ≡ false → Answers (Err (OutputError.Refused Missing)) b
          call_missing q = refused Missing (late ∙ visit_tested s t a sheet found e ∙ rw q)

          pub call_good : is_some found ≡ true → (r : Result ℕ OutputError) (later : List ℤ)
              → (reply_of r ≡ output 0 (projected s t a sheet) b) × (later ≡ output_after 0 (projected s t a sheet) b) → Answers r later
          unfolding project_answer project_after
          call_good q r later x =
              let none : project_refusal n s t a sheet ≡ 0 = late ∙ visit_tested s t a sheet found e ∙ rw q in
              rw none x
