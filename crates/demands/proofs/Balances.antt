-- The tally balances over the calls' bytes: edits on a good sheet answer as the central machine and leave its timetable
-- (machine CentralEdits), where the tally balances; a good division is the divided sheet that it merges to, and edits
-- on it are the edits on that sheet, divided. Assumes nothing.
use Prim.Native.Nat.{ℕ}
use mathlib.Core.Path.{◌≡◌, sym, ◌∙◌, ap}
use mathlib.Core.List.{List}
use lib.ListN.{length}
use Rattle.base.specs.Runs.{run, answers}
use Rattle.theory.proofs.Balance.{balances}
use Rattle.sheet.specs.Sheets.{decode_sheet, divided, merged}
use Rattle.sheet.proofs.SheetLaws.{merged_size, merged_good, divided_merged, merged_divided}
use Rattle.machine.specs.Calls.{sheet_answer, sheet_after, division_answer, division_after}
use Rattle.machine.proofs.ByteEdits.{whole_of}
use Rattle.machine.proofs.ListEdits.{GoodSheet, sheets_kept, run_divided, answers_divided}
use Rattle.machine.proofs.CentralEdits.{central_run, central_answers}
use Rattle.demands.specs.Balance.{SheetsBalance, DivisionsBalance, sheet_visits, division_visits}

pub sheets_balance : SheetsBalance
unfolding sheet_visits
sheets_balance n good sheet size fine es =
    let g : GoodSheet n good sheet = record { size = size; fine = fine } in
    rw (central_answers n good es sheet g, central_run n good es sheet g)
    (balances n good (decode_sheet sheet) (whole_of n good sheet size fine) es).balance

pub divisions_balance : DivisionsBalance
unfolding division_visits
divisions_balance n good division size fine es =
    let sheet : List ℕ = merged n division in
    let msize : length sheet ≡ 8192 = merged_size n good division size in
    let g : GoodSheet n good sheet = record { size = msize; fine = merged_good n good division size fine } in
    let back : division ≡ divided n sheet = sym (divided_merged n good division size fine) in
    let later : GoodSheet n good (run (sheet_after n) es sheet) = sheets_kept n good es sheet g in
    let as' : answers (division_after n) (division_answer n) es division ≡ answers (sheet_after n) (sheet_answer n) es sheet =
    ap (answers (division_after n) (division_answer n) es) back ∙ answers_divided n good es sheet g in
    let end : merged n (run (division_after n) es division) ≡ run (sheet_after n) es sheet =
    ap (λ (d : List ℕ). merged n (run (division_after n) es d)) back ∙ ap (merged n) (run_divided n good es sheet g)
    ∙ merged_divided n good (run (sheet_after n) es sheet) later.size later.fine in
    rw (as', end) (sheets_balance n good sheet msize g.fine es)
