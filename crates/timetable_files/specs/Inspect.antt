-- The call that reads the input of `inspect`: what it answers and what the lent sheet then holds. Document 01, "Who
-- brings on which number": "Each leaves all lent bytes untouched"; "A file refusal carries the faulty number's first
-- byte .. (.. 5 ..: 0)". Assumes nothing.
use Rattle.std.specs.Prelude.{ℕ, List, eqb, length, Result, Ok, Err}
use Rattle.std.specs.Prelude.{if◌then◌else◌}
use Rattle.timetable.specs.Formats.{Outcome, accepted, refused, number, place_of, value_or}
use Rattle.timetable.specs.Machine.{nothing_placed}
use Rattle.timetable.specs.InspectFile.{Inspection, read_inspect}
use Rattle.timetable.specs.NetworkFile.{blank_network}
use Rattle.base.specs.RefusalNumbers.{number_of}
use Rattle.base.specs.declared.refusal.FileError.{FileError}
use Rattle.timetable_files.specs.Types.{Network}
use Rattle.sheet.specs.Sheets.{encode_sheet}
use Rattle.timetable_files.specs.declared.input.InspectRead.{InspectRead}

-- the outcome of reading: 5 comes before all else
unfoldable pub inspect_outcome : List ℕ → List ℕ → Outcome Inspection
inspect_outcome file sheet = if eqb (length sheet) 8192 then read_inspect file else refused 5 0

-- document 01's number and values: 0 with the place behind the file, the network and the place of the timetable's first
-- byte, or the refusal and its place beside a blank network
pub record InspectTold : Type 0 where
  pub refusal : ℕ
  pub place : ℕ
  pub network : Network
  pub first : ℕ

abbrev pub inspect_told : Result InspectRead FileError → InspectTold
inspect_told (Ok r) = record { refusal = 0; place = r.place; network = r.network; first = r.first }
inspect_told (Err e) = record { refusal = number_of e.refusal; place = e.place; network = blank_network; first = 0 }

unfoldable pub inspect_read : Outcome Inspection → InspectTold
inspect_read o =
    let x = value_or (record { network = blank_network; first = 0; timetable = nothing_placed }) o in
    record { refusal = number o; place = place_of o; network = x.network; first = x.first }

unfoldable pub inspect_sheet : Outcome Inspection → List ℕ → List ℕ
inspect_sheet (accepted x next) sheet = encode_sheet x.timetable
inspect_sheet (refused k p) sheet = sheet

unfoldable pub inspect_answer : List ℕ → List ℕ → InspectTold
inspect_answer file sheet = inspect_read (inspect_outcome file sheet)

-- "equal timetables are equal bytes": the sheet is that of the timetable read
unfoldable pub inspect_after : List ℕ → List ℕ → List ℕ
inspect_after file sheet = inspect_sheet (inspect_outcome file sheet) sheet

-- The key ring of this module: `unfolding opened` opens every definition above.
unfoldable pub opened : Unit {0}
unfolding inspect_outcome inspect_read inspect_sheet inspect_answer inspect_after
opened = tt
