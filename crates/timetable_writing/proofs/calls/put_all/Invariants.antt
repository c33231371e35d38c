-- What is put of the rows before this one.
use Rattle.std.proofs.Common.{◌+◌, ◌*◌, ◌≤◌, ℕ, List, take, Bor, MutBor}
use Rattle.timetable.specs.Tables.{Table}
use Rattle.page.specs.between.Changes.{table_in}
use Rattle.sheet.specs.Sheets.{decode_sheet}
use Rattle.fields.specs.between.Putting.{Places}
use Rattle.timetable_writing.specs.Types.{Station}
use Rattle.timetable_writing.specs.between.Parts.{of_rows}
use Rattle.timetable_writing.proofs.calls.put_all.Given as goal

abbrev pub invariant-loop-row : goal.invariant-loop-row
invariant-loop-row g l = record {
  near : l.next ≤ l.at + 2592 * l.row-index;
  put : (f : Station → Table → List ℕ) (most : ℕ) → ((b : MutBor (List ℕ)) (k : ℕ) (x : Bor (List ℕ)) (s : Station) (r : ℕ) (c : MutBor (List ℕ)) → goal.F-post g l.put b k x s r c → Places k (f s (table_in x.now)) b.now r c.now most)
      → Places l.at (of_rows (decode_sheet l.sheet) f (take l.row-index l.rows)) l.initial.out l.next l.out (most * l.row-index);
}
