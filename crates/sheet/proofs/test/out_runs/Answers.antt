-- `sheet::test::out_runs` meets its contract: in a good network a link passes where its run is in range and its line
-- runs. Assumes nothing.
use Rattle.sheet.specs.between.Passes.{out_passes}
use Rattle.sheet.proofs.LinkRows.{out_good_runs}
use Rattle.sheet.proofs.test.out_runs.Goals as goal

pub returns-then-run_valid : goal.returns-then-run_valid
unfolding out_passes
returns-then-run_valid c =
    let s = c.args in
    rw (c.in-To.is, ← out_good_runs s.network.now c.requires.0 s.s _)
    (simp (← c.run_valid.ensures, c.if-run_valid.true, ← c.runs_by.ensures))

pub returns-in-Nothing : goal.returns-in-Nothing
unfolding out_passes
returns-in-Nothing c = rw c.in-Nothing.is

pub returns-else-run_valid : goal.returns-else-run_valid
unfolding out_passes
returns-else-run_valid c =
    let s = c.args in
    rw (c.in-To.is, ← out_good_runs s.network.now c.requires.0 s.s _)
    (simp (← c.run_valid.ensures, c.if-run_valid.false))
