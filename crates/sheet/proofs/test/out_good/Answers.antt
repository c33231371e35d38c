-- `sheet::test::out_good` meets its contract: each return rewrites with the link and the tests that led there. Assumes
-- nothing.
use Rattle.timetable.specs.Good.{out_good}
use Rattle.sheet.specs.between.Passes.{out_passes}
use Rattle.sheet.proofs.test.out_good.Goals as goal

pub returns-then-listed : goal.returns-then-listed
unfolding out_passes out_good
returns-then-listed c = simp (c.in-To.is, ← c.runs.ensures, c.if-listed.true, ← c.listed.ensures, c.if-run_valid.true, ← c.run_valid.ensures, c.if-valid-2.true, ← c.valid-then-valid.ensures, c.if-valid.true, ← c.valid.ensures)

pub returns-in-Nothing : goal.returns-in-Nothing
unfolding out_passes out_good
returns-in-Nothing c = simp c.in-Nothing.is

pub returns-else-listed : goal.returns-else-listed
unfolding out_passes out_good
returns-else-listed c = simp (c.in-To.is, c.if-listed.false, ← c.listed.ensures, c.if-run_valid.true, ← c.run_valid.ensures, c.if-valid-2.true, ← c.valid-then-valid.ensures, c.if-valid.true, ← c.valid.ensures)

pub returns-else-run_valid : goal.returns-else-run_valid
unfolding out_passes out_good
returns-else-run_valid c = simp (c.in-To.is, c.if-run_valid.false, ← c.run_valid.ensures, c.if-valid-2.true, ← c.valid-then-valid.ensures, c.if-valid.true, ← c.valid.ensures)

pub returns-else-valid-2 : goal.returns-else-valid-2
unfolding out_passes out_good
returns-else-valid-2 c = simp (c.in-To.is, c.if-valid-2.false, ← c.valid-then-valid.ensures, c.if-valid.true, ← c.valid.ensures)

pub returns-else-valid : goal.returns-else-valid
unfolding out_passes out_good
returns-else-valid c = simp (c.in-To.is, c.if-valid.false, ← c.valid.ensures)
