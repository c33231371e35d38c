-- `sheet::test::in_runs` meets its contract: in a good network a link passes where its line runs. Assumes nothing.
use mathlib.Core.Path.{◌∙◌}
use Rattle.sheet.specs.between.Passes.{in_passes}
use Rattle.sheet.proofs.LinkRows.{in_good_runs}
use Rattle.sheet.proofs.test.in_runs.Goals as goal

pub returns-in-Nothing : goal.returns-in-Nothing
unfolding in_passes
returns-in-Nothing c = rw c.in-Nothing.is

pub returns-in-From : goal.returns-in-From
unfolding in_passes
returns-in-From c =
    let s = c.args in
    rw c.in-From.is (c.runs_by.ensures ∙ in_good_runs s.network.now c.requires.0 s.s _)
