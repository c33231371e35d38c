-- `timetable_writing::calls::put_all_relations` meets its contract: it puts what each page has. Assumes nothing.
use mathlib.Core.Path.{ap}
use native.Mathlib.Omega.{arith}
use borrow.Author.Rules.{rules}
use Rattle.sheet.specs.Sheets.{decode_sheet}
use Rattle.timetable_writing.specs.between.Parts.{relations_here, of_rows, relation_part}
use Rattle.timetable_writing.proofs.TimetableLaws.{writes_as}
use Rattle.timetable_writing.proofs.calls.put_all_relations.Goals as goal

pub returns : goal.returns
unfolding relation_part
returns c =
    let s = c.args in
    let (x, y, z) = writes_as s.at c.put_all.result _ _ s.out.now c.put_all.new.out _ (ap (of_rows (decode_sheet s.sheet.now) relations_here) c.rows.ensures.rows) (c.put_all.ensures.put relations_here 234 (λ b k x s r d p. search rules)) in
    (x, y, omega (arith, z, c.rows.ensures.few))
