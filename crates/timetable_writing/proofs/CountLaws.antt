-- The totals of what is a sheet, and of what is none. Assumes nothing.
use Prim.Native.Nat.{ℕ}
use mathlib.Core.Path.{◌≡◌, sym}
use mathlib.Core.List.{List}
use lib.ListN.{length}
use borrow.Author.Tests.{eq-eqb, ne_eqb}
use Rattle.timetable.specs.Count.{visit_count, relation_count}
use Rattle.sheet.specs.Sheets.{decode_sheet}
use Rattle.timetable_writing.specs.Types.{Network}
use Rattle.timetable_writing.specs.Writing.{sheet_totals}

-- of what is no sheet
pub no_sheet : (n : Network) (sheet : List ℕ) → ¬ (length sheet ≡ 8192) → record { refusal = 5; visits = 0; relations = 0 } ≡ sheet_totals n sheet
unfolding sheet_totals
no_sheet n sheet h = sym (rw (ne_eqb (length sheet) 8192 h))

-- of a sheet
pub counted : (n : Network) (sheet : List ℕ) (v r : ℕ) → length sheet ≡ 8192 → v ≡ visit_count n (decode_sheet sheet) → r ≡ relation_count n (decode_sheet sheet)
    → record { refusal = 0; visits = v; relations = r } ≡ sheet_totals n sheet
unfolding sheet_totals
counted n sheet v r long e f = sym (rw (eq-eqb (length sheet) 8192 long, ← e, ← f))
