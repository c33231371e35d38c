-- `sheet_lines::whole::put_near` meets its contract: the lines are put; or nothing is, and then they are put from an
-- array with room for any list. Assumes nothing.
use Rattle.sheet_lines.proofs.FindingLines.{lines_put, none_put}
use Rattle.sheet_lines.proofs.whole.put_near.Goals as goal

pub returns-in-Some : goal.returns-in-Some
returns-in-Some c =
    let s = c.args in
    let f = c.put_listed in
    lines_put s.at s.n.now s.sheet.now _ s.out.now _ f.result f.ensures _ c.in-Some.is

pub returns-in-None : goal.returns-in-None
returns-in-None c =
    let s = c.args in
    let f = c.put_listed in
    let none = none_put s.at s.n.now s.sheet.now _ s.out.now _ f.result f.ensures c.in-None.is in
    rw (← none.2) c.put_any.ensures
