-- `page_edits::sweep_all` meets its contract: the loop has changed the pages of the first rows and counted their visits:
-- what is left to do and to count is that of the rows from there on. Assumes nothing.
use Prim.Native.Nat.{◌+◌, ◌≤◌}
use mathlib.Core.Path.{◌≡◌}
use mathlib.Core.List.{map}
use lib.ListN.{drop}
use Rattle.page_edits.specs.between.PageEdits.{swept, sweep}
use Rattle.page_edits.proofs.RowSteps.{spot}
use Rattle.page_edits.proofs.sweep_all.Given as goal

abbrev pub invariant-loop-row : goal.invariant-loop-row
invariant-loop-row l = record {
  counted : l.removed ≤ l.row-index;
  removed : swept l.t (map (spot l.layout l.n) l.row-items) l.initial.b ≡ l.removed + swept l.t (map (spot l.layout l.n) (drop l.row-index l.row-items)) l.b;
  changed : sweep l.t (map (spot l.layout l.n) l.row-items) l.initial.b ≡ sweep l.t (map (spot l.layout l.n) (drop l.row-index l.row-items)) l.b;
}
