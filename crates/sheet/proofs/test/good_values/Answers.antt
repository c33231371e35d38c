-- `sheet::test::good_values` meets its contract: each return rewrites with the tests that led there. Assumes nothing.
use borrow.Author.Tests.{le-leb, lt-leb}
use Rattle.sheet.specs.between.Passes.{values_pass}
use Rattle.sheet.proofs.test.good_values.Goals as goal

pub returns-then-valid-2 : goal.returns-then-valid-2
unfolding values_pass
returns-then-valid-2 c = simp (← c.valid-then-valid-2.ensures, c.if-valid-2.true, ← c.valid-then-v-tracks.ensures, le-leb _ _ c.if-v-tracks.true, c.if-valid.true, ← c.valid.ensures)

pub returns-else-valid-2 : goal.returns-else-valid-2
unfolding values_pass
returns-else-valid-2 c = simp (c.if-valid-2.false, ← c.valid-then-v-tracks.ensures, le-leb _ _ c.if-v-tracks.true, c.if-valid.true, ← c.valid.ensures)

pub returns-else-v-tracks : goal.returns-else-v-tracks
unfolding values_pass
returns-else-v-tracks c = simp (lt-leb _ _ c.if-v-tracks.false, c.if-valid.true, ← c.valid.ensures)

pub returns-else-valid : goal.returns-else-valid
unfolding values_pass
returns-else-valid c = simp (c.if-valid.false, ← c.valid.ensures)
