-- Dividing and merging as calls: what is answered, and what the lent bytes are afterwards, after each test of the code.
-- The order of the refusals is that of every call (timetable RefusalLaws). Assumes nothing.
use Prim.Native.Nat.{ℕ}
use mathlib.Core.Path.{◌≡◌, sym, ◌∙◌, ap}
use mathlib.Core.Bool.{Bool, true, false, not, ◌&&◌}
use mathlib.Core.List.{List}
use native.Mathlib.Omega.{arith}
use lib.Dec.{eqb}
use lib.ListN.{length}
use borrow.Author.Tests.{eq-eqb, ne_eqb}
use Rattle.network.specs.Networks.{network_refusal, listed}
use Rattle.base.specs.Choice.{◌if◌else◌}
use Rattle.timetable.specs.Refusals.{or_else, call_refusal}
use Rattle.timetable.proofs.RefusalLaws.{call_short, call_early, call_bad, call_late}
use Rattle.division.specs.Types.{Network}
use Rattle.sheet.specs.Sheets.{good_sheet, good_division, divide_refusal, after_divide, merge_refusal, after_merge}
use Rattle.division.specs.between.Copies.{areas_in, spread_all, collected}
use Rattle.sheet.specs.declared.test.Extent.{Extent}
use Rattle.sheet.specs.between.Passes.{sheet_passes, division_passes}
use Rattle.division.proofs.CopyLaws.{spread_divided, collected_merged}
use Rattle.sheet.proofs.PassLaws.{whole_test}

module _ (n : Network) (sheet division : List ℕ) where
  abbrev fits : Bool
  fits = eqb (length sheet) 8192 && eqb (length division) 49152

  abbrev fine : Bool
  fine = good_sheet n (listed n) sheet

  -- the answer and the division afterwards
  abbrev Divides : ℕ → List ℕ → Type 0
  Divides r later = (r ≡ divide_refusal n sheet division) × (later ≡ after_divide n sheet division)

  -- a refusal leaves the division as it was
  divide_refused : (r : ℕ) → divide_refusal n sheet division ≡ r → ¬ (r ≡ 0) → Divides r division
  unfolding after_divide
  divide_refused r e d = (sym e, sym (rw (e, ne_eqb r 0 d)))

  divide_short : fits ≡ false → Divides 5 division
  unfolding divide_refusal
  divide_short e = divide_refused 5 (call_short fits (network_refusal n) fine 0 e) (λ z. absurd (omega arith))

  pub divide_no_sheet : ¬ (length sheet ≡ 8192) → Divides 5 division
  divide_no_sheet d = divide_short (rw (ne_eqb (length sheet) 8192 d))

  module _ (size : length sheet ≡ 8192) where
    pub divide_no_division : ¬ (length division ≡ 49152) → Divides 5 division
    divide_no_division d = divide_short (rw (eq-eqb (length sheet) 8192 size, ne_eqb (length division) 49152 d))

    module _ (long : length division ≡ 49152) where
      lent : fits ≡ true
      lent = rw (eq-eqb (length sheet) 8192 size, eq-eqb (length division) 49152 long)

      -- what refuses the sheet, of which the network comes first
      abbrev refused : ℕ
      refused = or_else (network_refusal n) (6 if not (sheet_passes n Extent.Whole sheet) else 0)

      asked : divide_refusal n sheet division ≡ refused
      unfolding divide_refusal call_refusal
      asked = rw (lent, whole_test n sheet size)

      pub divide-refused : (r : ℕ) → r ≡ refused → ¬ (r ≡ 0) → Divides r division
      divide-refused r e d = divide_refused r (asked ∙ sym e) d

      pub divide-done : refused ≡ 0 → (areas later : List ℕ) → areas ≡ areas_in n → later ≡ spread_all areas sheet → Divides 0 later
      unfolding after_divide
      divide-done e areas later a p =
          let r = asked ∙ e in
          (sym r, p ∙ ap (λ (l : List ℕ). spread_all l sheet) a ∙ spread_divided n sheet ∙ sym (rw r))

module _ (n : Network) (division sheet : List ℕ) where
  abbrev lends : Bool
  lends = eqb (length division) 49152 && eqb (length sheet) 8192

  abbrev sound : Bool
  sound = good_division n division

  -- the answer and the sheet afterwards
  abbrev Merges : ℕ → List ℕ → Type 0
  Merges r later = (r ≡ merge_refusal n division sheet) × (later ≡ after_merge n division sheet)

  merge_refused : (r : ℕ) → merge_refusal n division sheet ≡ r → ¬ (r ≡ 0) → Merges r sheet
  unfolding after_merge
  merge_refused r e d = (sym e, sym (rw (e, ne_eqb r 0 d)))

  merge_short : lends ≡ false → Merges 5 sheet
  unfolding merge_refusal
  merge_short e = merge_refused 5 (call_short lends (network_refusal n) sound 0 e) (λ z. absurd (omega arith))

  pub merge_no_division : ¬ (length division ≡ 49152) → Merges 5 sheet
  merge_no_division d = merge_short (rw (ne_eqb (length division) 49152 d))

  module _ (long : length division ≡ 49152) where
    pub merge_no_sheet : ¬ (length sheet ≡ 8192) → Merges 5 sheet
    merge_no_sheet d = merge_short (rw (eq-eqb (length division) 49152 long, ne_eqb (length sheet) 8192 d))

    module _ (size : length sheet ≡ 8192) where
      merge-lent : lends ≡ true
      merge-lent = rw (eq-eqb (length division) 49152 long, eq-eqb (length sheet) 8192 size)

      passes : division_passes n division ≡ good_division n division
      unfolding division_passes
      passes = rw (eq-eqb (length division) 49152 long)

      pub merge-bad-network : (r : ℕ) → r ≡ network_refusal n → ¬ (r ≡ 0) → Merges r sheet
      unfolding merge_refusal
      merge-bad-network r e d = merge_refused r (call_early lends (network_refusal n) sound 0 merge-lent (λ z. d (e ∙ z)) ∙ sym e) d

      module _ (good : network_refusal n ≡ 0) where
        pub merge-bad-division : division_passes n division ≡ false → Merges 6 sheet
        unfolding merge_refusal
        merge-bad-division e = merge_refused 6 (call_bad lends (network_refusal n) sound 0 merge-lent good (sym passes ∙ e)) (λ z. absurd (omega arith))

        pub merge-done : division_passes n division ≡ true → (areas later : List ℕ) → areas ≡ areas_in n → later ≡ collected areas division → Merges 0 later
        unfolding merge_refusal after_merge
        merge-done e areas later a p =
            let r = call_late lends (network_refusal n) sound 0 merge-lent good (sym passes ∙ e) in
            (sym r, p ∙ ap (λ (l : List ℕ). collected l division) a ∙ collected_merged n division ∙ sym (rw r))
