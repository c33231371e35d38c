-- Reports from the future, of the bytes: 15 comes before a sheet is looked at (`early`), an edit that a call takes has
-- passed that test, and the calls' definitions ask an edit for its own refusal and its meaning alone, which two minutes
-- that do not refuse a report share (theory ReportsJudged). Assumes nothing.
use Prim.Native.Nat.{ℕ, ◌≤◌}
use mathlib.Core.Path.{◌≡◌, refl, sym, ap, ◌∙◌}
use mathlib.Core.Bool.{false, ◌&&◌}
use mathlib.Core.List.{List}
use native.Mathlib.Omega.{arith}
use lib.Dec.{T, eqb, ltb}
use lib.ListN.{length}
use borrow.Author.Tests.{eq-eqb, eqb-true, eqb-false, ltb-false}
use Rattle.base.specs.Lists.{any}
use Rattle.base.proofs.Tests.{by_value}
use Rattle.railway.specs.Edits.{edit_ok}
use Rattle.network.specs.Networks.{network_refusal, stations_of, listed, area_of}
use Rattle.timetable.specs.Reports.{ahead, future}
use Rattle.timetable.specs.Machine.{meaning, edit_refusal, refusal, answer, after}
use Rattle.timetable.specs.Groups.{reaches, names, names_group, divided_answer, divided_after}
use Rattle.timetable.proofs.RefusalLaws.{early_own, call_early, call_passed}
use Rattle.actions.specs.Early.{unknown_refusal, early_refusal}
use Rattle.actions.proofs.EarlyLaws.{early_facts}
use Rattle.theory.specs.Reports.{carrying}
use Rattle.theory.proofs.ReportsJudged.{own_future, past, own_arrival, own_departure, arrival_means, departure_means}
use Rattle.sheet.specs.Sheets.{good_sheet}
use Rattle.machine.specs.Calls.{sheet_refusal, sheet_answer, sheet_after, named_good, division_refusal, division_answer, division_after}
use Rattle.machine.proofs.EditCalls.{sheet_not, division_not}
use Rattle.demands.specs.Types.{Edit, ReportArrival, ReportDeparture, Network}
use Rattle.demands.specs.Reports.{FutureIsAnswered, TakenIsPast, SameBytes, NoByteKeepsIt}

module _ (n : Network) (range : ¬ (network_refusal n ≡ 3)) (e : Edit) (ok : T (edit_ok e)) (t : T (future e)) where
  own : edit_refusal e ≡ 15
  own = own_future e ok t

  said : early_refusal n e ≡ 15
  unfolding early_refusal
  said =
      early_own (edit_refusal e) (network_refusal n) (unknown_refusal n e) (λ z. omega (arith, own, z)) range (λ z. omega (arith, own, z))
      ∙ own

  sheet_said : (sheet : List ℕ) → length sheet ≡ 8192 → sheet_refusal n e sheet ≡ 15
  unfolding sheet_refusal
  sheet_said sheet size =
      call_early (eqb (length sheet) 8192) (early_refusal n e) (good_sheet n (listed n) sheet) 0 (eq-eqb (length sheet) 8192 size) (λ z. omega (arith, said, z))
      ∙ said

  division_said : (d : List ℕ) → length d ≡ 49152 → division_refusal n e d ≡ 15
  unfolding division_refusal
  division_said d size =
      call_early (eqb (length d) 49152) (early_refusal n e) (named_good n e d) 0 (eq-eqb (length d) 49152 size) (λ z. omega (arith, said, z))
      ∙ said

-- THEOREM. A report from the future is answered with 15, and no byte changes
pub future_answered : FutureIsAnswered
future_answered n range e ok t = record {
  of_sheet = λ sheet size. sheet_not n e sheet 15 (sheet_said n range e ok t sheet size) (λ z. omega (arith, z));
  of_division = λ d size. division_not n e d 15 (division_said n range e ok t d size) (λ z. omega (arith, z));
}

-- what a call takes has passed the test

module _ (n : Network) (e : Edit) (b : List ℕ) where
  early_taken : early_refusal n e ≡ 0 → future e ≡ false
  early_taken r = past e (early_facts n e r).ok

  sheet_taken : (sheet_answer n e b).refusal ≡ 0 → future e ≡ false
  unfolding sheet_refusal
  sheet_taken q = by_value (eqb (sheet_refusal n e b) 0)
      (λ z. early_taken (call_passed (eqb (length b) 8192) (early_refusal n e) (good_sheet n (listed n) b) 0 (eqb-true (sheet_refusal n e b) 0 z)).1)
      (λ z. absurd (eqb-false (sheet_refusal n e b) 0 z (sym (ap (λ a. a.refusal) (sheet_not n e b (sheet_refusal n e b) refl (eqb-false (sheet_refusal n e b) 0 z)).0) ∙ q)))

  division_taken : (division_answer n e b).refusal ≡ 0 → future e ≡ false
  unfolding division_refusal
  division_taken q = by_value (eqb (division_refusal n e b) 0)
      (λ z. early_taken (call_passed (eqb (length b) 49152) (early_refusal n e) (named_good n e b) 0 (eqb-true (division_refusal n e b) 0 z)).1)
      (λ z. absurd (eqb-false (division_refusal n e b) 0 z (sym (ap (λ a. a.refusal) (division_not n e b (division_refusal n e b) refl (eqb-false (division_refusal n e b) 0 z)).0) ∙ q)))

-- THEOREM. A report that is taken is not after its minute
pub taken_past : TakenIsPast
unfolding future ahead
taken_past n r b = (
  (λ q. by_then (sheet_taken n (ReportArrival r) b q), λ q. by_then (sheet_taken n (ReportDeparture r) b q)),
  (λ q. by_then (division_taken n (ReportArrival r) b q), λ q. by_then (division_taken n (ReportDeparture r) b q)),
)
  where
    by_then : ltb r.present.0 r.time.0 ≡ false → r.time.0 ≤ r.present.0
    by_then = ltb-false r.present.0 r.time.0

-- what the calls ask of an edit

module _ (n : Network) (e f : Edit) (own : edit_refusal e ≡ edit_refusal f) (same : meaning e ≡ meaning f) where
  named : names_group n (area_of n) e ≡ names_group n (area_of n) f
  unfolding names_group names
  named = λ i g. any (λ s. eqb g (area_of n s) && (eqb (own i) 0 && reaches n (same i) s)) (stations_of n)

  same_bytes : SameBytes n e f
  unfolding sheet_answer sheet_after sheet_refusal division_answer division_after division_refusal named_good early_refusal unknown_refusal divided_answer divided_after
      refusal answer after
  same_bytes = record { of_sheet = λ sheet. (rw (own, same), rw (own, same)); of_division = λ d. (rw (named, own, same), rw (named, own, same)) }

-- THEOREM. No byte keeps the minute
pub no_byte_keeps : NoByteKeepsIt
no_byte_keeps n r p q a b c d = (
  same_bytes n (ReportArrival (carrying p r)) (ReportArrival (carrying q r)) (own_arrival r p q a b c d) (arrival_means r p q),
  same_bytes n (ReportDeparture (carrying p r)) (ReportDeparture (carrying q r)) (own_departure r p q a b c d) (departure_means r p q),
)
