-- What is counted on the pages of the rows before this one.
use Rattle.std.proofs.Common.{◌≡◌, ◌*◌, ◌≤◌, ℕ, List, take, Bor}
use Rattle.base.specs.Lists.{sum}
use Rattle.timetable.specs.Tables.{Table}
use Rattle.page.specs.between.Changes.{table_in}
use Rattle.sheet.specs.Sheets.{decode_sheet}
use Rattle.timetable_writing.proofs.calls.total.Given as goal

abbrev pub invariant-loop-row : goal.invariant-loop-row
invariant-loop-row g l = record {
  few : l.total ≤ 24 * l.row-index;
  sum : (f : Table → ℕ) → ((x : Bor (List ℕ)) (k : ℕ) → goal.F-post g l.count x k → k ≡ f (table_in x.now)) → l.total ≡ sum (λ r. f (decode_sheet l.sheet r.station)) (take l.row-index l.rows);
  bound : (most : ℕ) → ((x : Bor (List ℕ)) (k : ℕ) → goal.F-post g l.count x k → k ≤ most) → l.total ≤ most * l.row-index;
}
