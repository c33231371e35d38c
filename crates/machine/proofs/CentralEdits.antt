-- The edit on a sheet, over whole lists: on a good sheet it answers as the central machine does on the timetable that
-- the sheet holds, and leaves the sheet of the machine's timetable. Lists go by induction, as an edit keeps a sheet
-- good. So two orders that the central machine cannot tell apart leave the same bytes. Assumes nothing.
use Prim.Native.Nat.{ℕ}
use mathlib.Core.Path.{◌≡◌, refl, sym, ◌∙◌, ap}
use mathlib.Core.Bool.{Bool, true, false, not}
use mathlib.Core.List.{List, [], ◌∷◌}
use native.Mathlib.Omega.{arith}
use lib.Dec.{eqb}
use lib.ListN.{length}
use borrow.Author.Tests.{eqb-true, eqb-false, eq-eqb, ne_eqb}
use Rattle.base.specs.Choice.{◌if◌else◌}
use Rattle.base.specs.Runs.{run, answers}
use Rattle.base.proofs.Tests.{by_value, T_true, true_T}
use Rattle.network.specs.Networks.{network_refusal, listed}
use Rattle.timetable.specs.Machine.{Timetable, Meaning, local, throughout, meaning, edit_refusal, refused_as, refusal, answer, after}
use Rattle.timetable.specs.Refusals.{early}
use Rattle.timetable.proofs.RefusalLaws.{early_own_range, early_own, early_both}
use Rattle.actions.specs.Early.{fits_network, unknown_refusal, early_refusal}
use Rattle.sheet.specs.Sheets.{encode_sheet, decode_sheet, good_sheet}
use Rattle.machine.specs.Calls.{refused_with, sheet_refusal, sheet_answer, sheet_after}
use Rattle.machine.proofs.ByteEdits.{sheet_of, later_back, call_good}
use Rattle.machine.proofs.EditCalls.{sheet_is, sheet_not}
use Rattle.machine.proofs.ListEdits.{GoodSheet, sheet_kept}
use Rattle.machine.specs.Types.{Edit, Network, Answer}

-- what the network does not know is 7
unknown_seven : (n : Network) (μ : Meaning) (m : Timetable) → fits_network n μ ≡ false → refused_as n μ m ≡ 7
unfolding fits_network refused_as
unknown_seven n (local a) m q = rw q
unknown_seven n (throughout t) m q = absurd (true_T false (sym q))

module _ (n : Network) (good : network_refusal n ≡ 0) where
  -- what refuses an edit before any sheet is looked at refuses it in the central machine too
  pub early_same : (e : Edit) (m : Timetable) → ¬ (early_refusal n e ≡ 0) → refusal n e m ≡ early_refusal n e
  unfolding refusal early_refusal unknown_refusal
  early_same e m z = by_value (eqb (edit_refusal e) 0)
      (λ p.
      let late : early (edit_refusal e) (network_refusal n) (7 if not (fits_network n (meaning e)) else 0) ≡ (7 if not (fits_network n (meaning e)) else 0) =
      early_both (edit_refusal e) (network_refusal n) _ (eqb-true (edit_refusal e) 0 p) good in
      by_value (fits_network n (meaning e))
      (λ q. absurd (z (late ∙ rw q)))
      (λ q. rw p (unknown_seven n (meaning e) m q ∙ sym (late ∙ rw q))))
      (λ p. rw p (own (eqb (edit_refusal e) 3) refl (eqb-false (edit_refusal e) 0 p)))
    where
      zero-three : ¬ (◌≡◌ {A = ℕ} 0 3)
      zero-three x = omega (arith, x)

      own : (b : Bool) → eqb (edit_refusal e) 3 ≡ b → ¬ (edit_refusal e ≡ 0)
          → edit_refusal e ≡ early (edit_refusal e) (network_refusal n) (7 if not (fits_network n (meaning e)) else 0)
      own true q y = let r : edit_refusal e ≡ 3 = eqb-true (edit_refusal e) 3 q in r ∙ sym (early_own_range (edit_refusal e) (network_refusal n) _ r)
      own false q y = sym (early_own (edit_refusal e) (network_refusal n) _ (eqb-false (edit_refusal e) 3 q) (λ x. zero-three (sym good ∙ x)) y)

  module _ (e : Edit) (sheet : List ℕ) (g : GoodSheet n good sheet) where
    early_only : sheet_refusal n e sheet ≡ early_refusal n e
    unfolding sheet_refusal
    early_only =
        call_good (eqb (length sheet) 8192) (early_refusal n e) (good_sheet n (listed n) sheet) (eq-eqb (length sheet) 8192 g.size)
        (T_true (good_sheet n (listed n) sheet) g.fine)

    -- the answer of the central machine
    pub central_answer : sheet_answer n e sheet ≡ answer n e (decode_sheet sheet)
    unfolding answer
    central_answer = by_value (eqb (early_refusal n e) 0)
        (λ b. (sheet_is n e sheet (early_only ∙ eqb-true (early_refusal n e) 0 b)).0)
        (λ b. let z : ¬ (early_refusal n e ≡ 0) = eqb-false (early_refusal n e) 0 b in
        (sheet_not n e sheet (early_refusal n e) early_only z).0 ∙ sym (stopped z))
      where
        stopped : ¬ (early_refusal n e ≡ 0) → answer n e (decode_sheet sheet) ≡ refused_with (early_refusal n e)
        stopped z = rw (early_same e (decode_sheet sheet) z, ne_eqb (early_refusal n e) 0 z)

    -- its timetable
    pub central_after : decode_sheet (sheet_after n e sheet) ≡ after n e (decode_sheet sheet)
    unfolding after
    central_after = by_value (eqb (early_refusal n e) 0)
        (λ b. ap decode_sheet (sheet_is n e sheet (early_only ∙ eqb-true (early_refusal n e) 0 b)).1 ∙ later_back n good sheet g.size g.fine e)
        (λ b. let z : ¬ (early_refusal n e ≡ 0) = eqb-false (early_refusal n e) 0 b in
        ap decode_sheet (sheet_not n e sheet (early_refusal n e) early_only z).1 ∙ sym (stopped z))
      where
        stopped : ¬ (early_refusal n e ≡ 0) → after n e (decode_sheet sheet) ≡ decode_sheet sheet
        stopped z = rw (early_same e (decode_sheet sheet) z, ne_eqb (early_refusal n e) 0 z)

  -- lists
  pub central_run : (es : List Edit) (sheet : List ℕ) → GoodSheet n good sheet → decode_sheet (run (sheet_after n) es sheet) ≡ run (after n) es (decode_sheet sheet)
  unfolding run
  central_run [] sheet g = refl
  central_run (e ∷ es) sheet g =
      central_run es (sheet_after n e sheet) (sheet_kept n good e sheet g) ∙ ap (run (after n) es) (central_after e sheet g)

  pub central_answers : (es : List Edit) (sheet : List ℕ) → GoodSheet n good sheet
      → answers (sheet_after n) (sheet_answer n) es sheet ≡ answers (after n) (answer n) es (decode_sheet sheet)
  unfolding answers
  central_answers [] sheet g = refl
  central_answers (e ∷ es) sheet g =
      rw (central_answer e sheet g)
      (ap (λ (l : List Answer). answer n e (decode_sheet sheet) ∷ l)
      (central_answers es (sheet_after n e sheet) (sheet_kept n good e sheet g) ∙ ap (answers (after n) (answer n) es) (central_after e sheet g)))

  -- good sheets of one timetable are the same bytes
  pub same_bytes : (a b : List ℕ) → GoodSheet n good a → GoodSheet n good b → decode_sheet a ≡ decode_sheet b → a ≡ b
  same_bytes a b g h q = sheet_of n good a g.size g.fine ∙ ap encode_sheet q ∙ sym (sheet_of n good b h.size h.fine)
