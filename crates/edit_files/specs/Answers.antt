-- The outcome that each answer tells, and what the calls on edits in files tell of the outcome of reading. Assumes
-- nothing.
use Rattle.std.specs.Prelude.{ℕ, List, [], length, Result, Ok, Err}
use Rattle.base.specs.declared.refusal.FileError.{FileError}
use Rattle.base.specs.RefusalNumbers.{number_of}
use Rattle.railway.specs.declared.edit.Edit.{Edit}
use Rattle.timetable.specs.Formats.{Outcome, accepted, refused, Placed}
use Rattle.timetable.specs.EditsFile.{Shift}
use Rattle.edit_files.specs.declared.edit.Cursor.{Cursor}
use Rattle.edit_files.specs.declared.list.EditList.{EditList}
use Rattle.edit_files.specs.declared.input.ShiftInput.{ShiftInput}

-- document 01's number and values for each case of an answer

-- the place behind the edit is the cursor's
abbrev pub next_outcome : Result (Edit × Cursor) FileError → Outcome Edit
next_outcome (Ok (e, c)) = accepted e c.at
next_outcome (Err e) = refused (number_of e.refusal) e.place

-- of a list of edits, its end alone
abbrev pub scan_outcome : Result ℕ FileError → Outcome (Unit {0})
scan_outcome (Ok next) = accepted tt next
scan_outcome (Err e) = refused (number_of e.refusal) e.place

-- of a whole file, what stands in it up to its end
abbrev pub whole_outcome : {A : Type 0} → ℕ → Result A FileError → Outcome A
whole_outcome end (Ok a) = accepted a end
whole_outcome end (Err e) = refused (number_of e.refusal) e.place

-- lists of edits: the place of the first and their count

abbrev pub list_of : Placed (List Edit) → EditList
list_of es = record { first = es.place; count = length es.entry }

unfoldable pub listed : Outcome (Placed (List Edit)) → Outcome EditList
listed (accepted es next) = accepted (list_of es) next
listed (refused k p) = refused k p

unfoldable pub shift_listed : Outcome Shift → Outcome ShiftInput
shift_listed (accepted x next) = accepted (record { network = x.network; edits = list_of x.edits }) next
shift_listed (refused k p) = refused k p

-- the edits and the place of the first, none beside a refusal
abbrev pub no_edits : Placed (List Edit)
no_edits = record { place = 0; entry = [] }

-- The key ring of this module: `unfolding opened` opens every definition above.
unfoldable pub opened : Unit {0}
unfolding listed shift_listed
opened = tt
