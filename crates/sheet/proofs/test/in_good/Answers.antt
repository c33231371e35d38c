-- `sheet::test::in_good` meets its contract: each return rewrites with the link and the tests that led there. Assumes
-- nothing.
use Rattle.timetable.specs.Good.{in_good}
use Rattle.sheet.specs.between.Passes.{in_passes}
use Rattle.sheet.proofs.test.in_good.Goals as goal

pub returns-then-listed : goal.returns-then-listed
unfolding in_passes in_good
returns-then-listed c = simp (c.in-From.is, ← c.runs.ensures, c.if-listed.true, ← c.listed.ensures, c.if-valid-2.true, ← c.valid-then-valid.ensures, c.if-valid.true, ← c.valid.ensures)

pub returns-in-Nothing : goal.returns-in-Nothing
unfolding in_passes in_good
returns-in-Nothing c = simp c.in-Nothing.is

pub returns-else-listed : goal.returns-else-listed
unfolding in_passes in_good
returns-else-listed c = simp (c.in-From.is, c.if-listed.false, ← c.listed.ensures, c.if-valid-2.true, ← c.valid-then-valid.ensures, c.if-valid.true, ← c.valid.ensures)

pub returns-else-valid-2 : goal.returns-else-valid-2
unfolding in_passes in_good
returns-else-valid-2 c = simp (c.in-From.is, c.if-valid-2.false, ← c.valid-then-valid.ensures, c.if-valid.true, ← c.valid.ensures)

pub returns-else-valid : goal.returns-else-valid
unfolding in_passes in_good
returns-else-valid c = simp (c.in-From.is, c.if-valid.false, ← c.valid.ensures)
