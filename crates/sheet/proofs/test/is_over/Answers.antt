-- `sheet::test::is_over` meets its contract: by the extent, and by the tests that led to each return. Assumes nothing.
use Rattle.sheet.specs.between.Passes.{covers}
use Rattle.sheet.proofs.test.is_over.Goals as goal

pub returns-then-listed : goal.returns-then-listed
unfolding covers
returns-then-listed c = rw c.in-Of.is (simp (← c.group_of.ensures, c.if-listed.true, ← c.listed-in-Of.ensures))

pub returns-in-Whole : goal.returns-in-Whole
unfolding covers
returns-in-Whole c = rw c.in-Whole.is c.listed.ensures

pub returns-else-listed : goal.returns-else-listed
unfolding covers
returns-else-listed c = rw c.in-Of.is (simp (c.if-listed.false, ← c.listed-in-Of.ensures))
