-- `sheet::test::good_sheet` meets its contract: a network that is not refused is good. Assumes nothing.
use mathlib.Core.Path.{sym, ◌∙◌}
use borrow.Author.Rules.{rules}
use borrow.Author.Tests.{eqb-true}
use Rattle.sheet.proofs.test.good_sheet.Goals as goal

pub returns : goal.returns
returns c = c.sheet_under.ensures
