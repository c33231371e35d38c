-- `edit_writing::writing::put_edit` meets its contract: the row holds the edit's numbers, thirteen at most. Assumes
-- nothing.
use mathlib.Core.Path.{◌≡◌, ◌∙◌, ap}
use lib.ListN.{length, take}
use borrow.Author.Rules.{rules}
use Rattle.timetable.specs.FileForms.{newest_form}
use Rattle.timetable.specs.EditsFile.{edit_numbers}
use Rattle.edit_writing.proofs.WritingLaws.{row_few}
use Rattle.edit_writing.proofs.writing.put_edit.Goals as goal

pub returns : goal.returns
returns c =
    let r = c.edit_row in
    let m : length r.result.values ≡ 13 = search rules in
    let z = ap (take 13) c.in_use.ensures ∙ row_few r.result (edit_numbers newest_form c.args.e) r.ensures m in
    rw z at c.put_row.ensures
