-- `journey_lines::put_journeys` meets its contract: nothing of a sheet whose list is refused, else the projections from
-- all its visits. Assumes nothing.
use mathlib.Core.Path.{refl, sym, ◌∙◌}
use native.Mathlib.Omega.{arith}
use borrow.Author.Tests.{ne_eqb}
use Rattle.timetable.specs.Outputs.{put}
use Rattle.timetable.proofs.OutputLaws.{number_there}
use Rattle.findings.specs.Lists.{sheet_list_refusal}
use Rattle.text.proofs.PutParts.{puts_as}
use Rattle.journey_lines.specs.between.Journeys.{journey_lines}
use Rattle.journey_lines.proofs.JourneyLines.{journeys_there}
use Rattle.journey_lines.proofs.put_journeys.Goals as goal

pub put_stations-requires : goal.put_stations-requires
put_stations-requires c = sym c.in-Ok.ensures

pub returns-in-Ok : goal.returns-in-Ok
returns-in-Ok c =
    let s = c.args in
    puts_as 0 _ _ _ _ _ 442368 (sym (journeys_there s.n.now s.sheet.now (sym c.in-Ok.ensures))) c.put_stations.ensures

pub returns-in-Err : goal.returns-in-Err
unfolding journey_lines put
returns-in-Err c =
    let s = c.args in
    rw (ne_eqb (sheet_list_refusal s.n.now s.sheet.now) 0 (λ e. number_there _ (c.in-Err.ensures ∙ e))) (refl, refl, omega arith)
