-- `sheet::test::runs_by` meets its contract: a row in use that has the line's number decides, and else the search does.
-- Assumes nothing.
use mathlib.Core.Path.{◌≡◌, ◌∙◌}
use lib.ListN.{length}
use borrow.Author.Rules.{rules}
use Rattle.sheet.proofs.LinkRows.{row_decides}
use Rattle.sheet.proofs.test.runs_by.Goals as goal

pub returns-then-l-network : goal.returns-then-l-network
returns-then-l-network c =
    let s = c.args in
    let p = c.requires in
    let many : length s.network.now.lines ≡ 32 = search rules in
    c.runs.ensures
    ∙ row_decides s.network.now p.0 many s.l s.row p.1 c.if-row-l.true c.if-l-gt0.true c.if-l-network.true s.from s.to
