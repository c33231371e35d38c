-- The sheet of a whole timetable is good and holds that timetable, and edits on it leave the sheet of the central
-- machine's timetable; a good sheet divides, and its division merges back. Assumes nothing.
use Prim.Native.Nat.{ℕ}
use mathlib.Core.Path.{◌≡◌, sym, ◌∙◌, ap}
use mathlib.Core.List.{List}
use lib.ListN.{length}
use borrow.Author.Tests.{eq-eqb}
use Rattle.base.specs.Runs.{run}
use Rattle.base.proofs.Tests.{T_true}
use Rattle.network.specs.Networks.{network_refusal, listed}
use Rattle.timetable.specs.Machine.{Timetable, after}
use Rattle.timetable.specs.Refusals.{or_else, call_refusal}
use Rattle.timetable.specs.Good.{Whole}
use Rattle.timetable.specs.Refusals.{or_else, call_refusal}
use Rattle.theory.proofs.Kept.{run_whole}
use Rattle.sheet.specs.Sheets.{encode_sheet, decode_sheet, good_sheet, good_division, divided, divide_refusal, after_divide, merge_refusal, after_merge}
use Rattle.network.proofs.AreaLaws.{listed_ok}
use Rattle.sheet.proofs.SheetLaws.{encoded_size, encoded_sheet_good, good_all_coded, good_sheet_back, divided_size, divided_good, merged_divided}
use Rattle.machine.specs.Types.{Edit, Network}
use Rattle.machine.specs.Calls.{sheet_after}
use Rattle.machine.proofs.ListEdits.{GoodSheet, sheets_kept}
use Rattle.machine.proofs.CentralEdits.{central_run, same_bytes}

module _ (n : Network) (good : network_refusal n ≡ 0) where
  -- the sheet of a whole timetable
  pub whole_good : (m : Timetable) → Whole n m → GoodSheet n good (encode_sheet m)
  whole_good m w = record {
    size = encoded_size m (λ k t. good_all_coded n (listed n) (listed_ok n good) m w k);
    fine = encoded_sheet_good n (listed n) (listed_ok n good) m w;
  }

  pub whole_back : (m : Timetable) → Whole n m → decode_sheet (encode_sheet m) ≡ m
  whole_back m w = good_sheet_back n (listed n) (listed_ok n good) m w

  -- edits on it leave the sheet of the central machine's timetable
  pub bytes_run : (m : Timetable) → Whole n m → (es : List Edit) → run (sheet_after n) es (encode_sheet m) ≡ encode_sheet (run (after n) es m)
  bytes_run m w es =
      let last : Timetable = run (after n) es m in
      let lastwhole : Whole n last = run_whole n es m w in
      same_bytes n good (run (sheet_after n) es (encode_sheet m)) (encode_sheet last)
      (sheets_kept n good es (encode_sheet m) (whole_good m w)) (whole_good last lastwhole)
      (central_run n good es (encode_sheet m) (whole_good m w) ∙ ap (run (after n) es) (whole_back m w) ∙ sym (whole_back last lastwhole))

  -- a good sheet divides, and its division merges back
  module _ (sheet : List ℕ) (g : GoodSheet n good sheet) where
    pub divides : (buffer : List ℕ) → length buffer ≡ 49152 → (divide_refusal n sheet buffer ≡ 0) × (after_divide n sheet buffer ≡ divided n sheet)
    unfolding divide_refusal after_divide call_refusal or_else
    divides buffer size =
        let p = eq-eqb (length sheet) 8192 g.size in
        let q = eq-eqb (length buffer) 49152 size in
        let fine = T_true (good_sheet n (listed n) sheet) g.fine in
        (rw (p, q, good, fine), rw (p, q, good, fine))

    pub merges : (buffer : List ℕ) → length buffer ≡ 8192 → (merge_refusal n (divided n sheet) buffer ≡ 0) × (after_merge n (divided n sheet) buffer ≡ sheet)
    unfolding merge_refusal after_merge call_refusal or_else
    merges buffer size =
        let p = eq-eqb (length (divided n sheet)) 49152 (divided_size n sheet g.size) in
        let q = eq-eqb (length buffer) 8192 size in
        let fine = T_true (good_division n (divided n sheet)) (divided_good n good sheet g.size g.fine) in
        (rw (p, q, good, fine), rw (p, q, good, fine) (merged_divided n good sheet g.size g.fine))
