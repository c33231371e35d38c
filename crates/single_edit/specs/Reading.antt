-- A file that holds one edit, "kind and fields", and nothing behind it. Assumes nothing.
use Rattle.std.specs.Prelude.{ℕ, List}
use Rattle.timetable.specs.Formats.{Outcome, read_file}
use Rattle.timetable.specs.FileForms.{newest_form}
use Rattle.timetable.specs.EditsFile.{edit_entry}
use Rattle.railway.specs.declared.edit.Edit.{Edit}

unfoldable pub read_one : List ℕ → Outcome Edit
read_one file = read_file (edit_entry newest_form) file

-- The key ring of this module: `unfolding opened` opens every definition above.
unfoldable pub opened : Unit {0}
unfolding read_one
opened = tt
