-- `named_sheets::named_refusal` meets its contract: what is asked of all sheets is asked of those from i on, and once a
-- sheet was tested the network is good. Assumes nothing.
use mathlib.Core.Path.{◌≡◌}
use mathlib.Core.Bool.{true}
use lib.ListN.{drop}
use Rattle.base.specs.Lists.{every}
use Rattle.network.specs.Networks.{network_refusal}
use Rattle.timetable.specs.Groups.{six}
use Rattle.sheet.specs.Sheets.{sheet_at}
use Rattle.named_sheets.specs.between.Named.{reach_passes}
use Rattle.named_sheets.proofs.named_refusal.Given as goal

abbrev pub invariant-loop-i : goal.invariant-loop-i
invariant-loop-i l = record {
  rest : every (λ c. reach_passes l.n l.x c (sheet_at l.division c)) six ≡ every (λ c. reach_passes l.n l.x c (sheet_at l.division c)) (drop l.i six);
  good : l.tested ≡ true → network_refusal l.n ≡ 0;
}
