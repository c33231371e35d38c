-- A division that is known to be good: what that says, that an edit on it is the single call though no sheet is tested,
-- and that it keeps it. Assumes nothing.
use Prim.Native.Nat.{ℕ}
use mathlib.Core.Path.{◌≡◌, sym, ◌∙◌}
use mathlib.Core.Bool.{true, not, ◌&&◌, ◌||◌}
use mathlib.Core.List.{List}
use lib.Dec.{T, eqb}
use lib.ListN.{length}
use borrow.Author.Tests.{eqb-true, eq-eqb}
use Rattle.base.proofs.Tests.{T_true, true_T, and_l, and_r, or_r, every_weaker}
use Rattle.network.specs.Networks.{network_refusal, listed, area_of}
use Rattle.timetable.specs.Refusals.{early}
use Rattle.timetable.specs.Machine.{edit_refusal}
use Rattle.timetable.specs.Groups.{six, in_group, names_group}
use Rattle.actions.specs.Early.{unknown_refusal, early_refusal}
use Rattle.actions.proofs.EarlyLaws.{early_facts, early_under}
use Rattle.sheet.specs.Sheets.{good_sheet, sheet_at, good_division}
use Rattle.sheet.specs.between.Passes.{division_passes}
use Rattle.machine.specs.Calls.{refused_with, named_good, division_answer, division_after}
use Rattle.page_edits.specs.between.PageEdits.{frames_answer, frames_after}
use Rattle.page_edits.specs.declared.Layout.{Layout}
use Rattle.machine.proofs.ListEdits.{GoodDivision, division_kept}
use Rattle.machine.proofs.EditCalls.{division_not}
use Rattle.edit_calls.proofs.CallTests.{named_same, division_early, division_call}
use Rattle.edit_calls.specs.Types.{Edit, Network}
use Rattle.edit_calls.specs.Lists.{known_good}

module _ (n : Network) (division : List ℕ) where
  pub network_good : known_good n division ≡ true → network_refusal n ≡ 0
  unfolding known_good
  network_good k = eqb-true (network_refusal n) 0 (T_true (eqb (network_refusal n) 0) (and_l (eqb (network_refusal n) 0) (division_passes n division) (true_T (known_good n division) k)))

  pub sheets_good : (k : known_good n division ≡ true) → GoodDivision n (network_good k) division
  unfolding known_good division_passes
  sheets_good k =
      let p : T (eqb (length division) 49152 && good_division n division) =
      and_r (eqb (network_refusal n) 0) (eqb (length division) 49152 && good_division n division) (true_T (known_good n division) k) in
      record {
        size = eqb-true (length division) 49152 (T_true (eqb (length division) 49152) (and_l (eqb (length division) 49152) (good_division n division) p));
        fine = and_r (eqb (length division) 49152) (good_division n division) p;
      }

  pub is_known : (good : network_refusal n ≡ 0) → GoodDivision n good division → known_good n division ≡ true
  unfolding known_good division_passes
  is_known good g = rw (good, eq-eqb (length division) 49152 g.size, T_true (good_division n division) g.fine)

-- an edit on such a division, by the tests of the edit alone
module _ (n : Network) (division : List ℕ) (k : known_good n division ≡ true) (e : Edit) where
  good : network_refusal n ≡ 0
  good = network_good n division k

  size : length division ≡ 49152
  size = (sheets_good n division k).size

  -- all six sheets are good, so those of the named areas are
  named_fine : T (named_good n e division)
  unfolding named_good good_division
  named_fine =
      every_weaker (λ a. good_sheet n (λ k. listed n k && in_group (area_of n) a k) (sheet_at division a))
      (λ a. not (names_group n (area_of n) e a) || good_sheet n (λ k. listed n k && in_group (area_of n) a k) (sheet_at division a))
      (λ a t. or_r (not (names_group n (area_of n) e a)) (good_sheet n (λ k. listed n k && in_group (area_of n) a k) (sheet_at division a)) t)
      six (sheets_good n division k).fine

  -- refused by the edit alone
  pub known_stopped : (r : ℕ) → r ≡ early (edit_refusal e) 0 (unknown_refusal n e) → ¬ (r ≡ 0)
      → (refused_with r ≡ division_answer n e division) × (division ≡ division_after n e division)
  known_stopped r q z =
      let x = division_not n e division r (division_early n e division size r (q ∙ early_under n e good) z) z in
      (sym x.0, sym x.1)

  module _ (q : early (edit_refusal e) 0 (unknown_refusal n e) ≡ 0) where
    passed : early_refusal n e ≡ 0
    passed = sym (early_under n e good) ∙ q

    pub known_edit : (frames_answer Layout.Division n e division ≡ division_answer n e division) × (frames_after Layout.Division n e division ≡ division_after n e division)
    known_edit =
        division_call n e division size passed
        (named_same n e (early_facts n e passed) division size ∙ T_true (named_good n e division) named_fine)

  -- it leaves it so
  pub known_kept : known_good n (division_after n e division) ≡ true
  known_kept =
      is_known n (division_after n e division) (network_good n division k)
      (division_kept n (network_good n division k) e division (sheets_good n division k))
