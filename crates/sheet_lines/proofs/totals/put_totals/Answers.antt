-- `sheet_lines::totals::put_totals` meets its contract: the line of the two counts and the number given. Assumes
-- nothing.
use mathlib.Core.Path.{ap}
use Rattle.timetable_writing.specs.Writing.{TotalsTold}
use Rattle.sheet_lines.specs.between.Sheets.{totals_at}
use Rattle.sheet_lines.proofs.totals.put_totals.Goals as goal

pub returns-in-Ok : goal.returns-in-Ok
unfolding totals_at
returns-in-Ok c =
    let told = c.in-Ok.ensures.told in
    rw (← ap (λ (t : TotalsTold). t.visits) told, ← ap (λ (t : TotalsTold). t.relations) told) c.put_line.ensures

pub returns-in-Err : goal.returns-in-Err
unfolding totals_at
returns-in-Err c =
    let told = c.in-Err.ensures.told in
    rw (← ap (λ (t : TotalsTold). t.visits) told, ← ap (λ (t : TotalsTold). t.relations) told) c.put_line-in-Err.ensures
