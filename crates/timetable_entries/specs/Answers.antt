-- What reading a timetable into a lent sheet answers, and what the sheet then holds. Assumes nothing.
pub use Rattle.network_files.specs.between.Faults.{fault_told}
use Rattle.std.specs.Prelude.{ℕ, List, Result, Ok, Err}
use Rattle.base.specs.RefusalNumbers.{number_of}
use Rattle.base.specs.declared.refusal.FileError.{FileError}
use Rattle.timetable.specs.Formats.{Outcome, accepted, refused}
use Rattle.timetable.specs.Machine.{Timetable}
use Rattle.sheet.specs.Sheets.{encode_sheet}

-- document 01's number and values for each case of the answer
abbrev pub timetable_outcome : Result ℕ FileError → Outcome (Unit {0})
timetable_outcome (Ok next) = accepted tt next
timetable_outcome (Err e) = refused (number_of e.refusal) e.place

-- "equal timetables are equal bytes": the sheet is that of the timetable read; "Each leaves all lent bytes untouched"
unfoldable pub sheet_of : Outcome Timetable → List ℕ → List ℕ
sheet_of (accepted m next) sheet = encode_sheet m
sheet_of (refused k p) sheet = sheet

-- The key ring of this module: `unfolding opened` opens every definition above.
unfoldable pub opened : Unit {0}
unfolding sheet_of
opened = tt
