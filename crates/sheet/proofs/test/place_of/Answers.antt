-- `sheet::test::place_of` meets its contract: a line in range has a number of 1 or more. Assumes nothing.
use mathlib.Core.Path.{sym, ◌∙◌}
use Rattle.sheet.specs.between.Passes.{row_place}
use Rattle.sheet.proofs.test.place_of.Goals as goal

pub returns-then-valid : goal.returns-then-valid
unfolding row_place
returns-then-valid c = rw (sym c.valid.ensures ∙ c.if-valid.true, c.size.ensures.0)

pub returns : goal.returns
unfolding row_place
returns c = rw (sym c.valid.ensures ∙ c.if-valid.false)
