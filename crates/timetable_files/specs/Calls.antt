-- The call that reads a timetable file: what it answers and what the lent sheet then holds. Document 01, "Who brings on
-- which number": "Each leaves all lent bytes untouched"; "A file refusal carries the faulty number's first byte .. (..
-- 5, or a network not read from a file: 0)". Assumes nothing.
use Rattle.std.specs.Prelude.{ℕ, List, eqb, length}
use Rattle.std.specs.Prelude.{if◌then◌else◌}
use Rattle.timetable.specs.declared.FileForm.{FileForm}
use Rattle.timetable.specs.Formats.{Outcome, refused}
use Rattle.timetable.specs.Machine.{Timetable}
use Rattle.timetable.specs.TimetableFile.{read_timetable_as}
use Rattle.fields.specs.Outcomes.{end_of}
use Rattle.timetable_entries.specs.Answers.{sheet_of}
use Rattle.timetable_files.specs.Types.{Network}

-- the outcome of reading under a network, in a form: 5 comes before all else
unfoldable pub read_outcome : FileForm → Network → List ℕ → List ℕ → Outcome Timetable
read_outcome form n file sheet = if eqb (length sheet) 8192 then read_timetable_as form n file else refused 5 0

-- the answer tells the place alone; the sheet holds the timetable
unfoldable pub read_answer : FileForm → Network → List ℕ → List ℕ → Outcome (Unit {0})
read_answer form n file sheet = end_of (read_outcome form n file sheet)

-- "equal timetables are equal bytes": the sheet is that of the timetable read
unfoldable pub read_after : FileForm → Network → List ℕ → List ℕ → List ℕ
read_after form n file sheet = sheet_of (read_outcome form n file sheet) sheet

-- The key ring of this module: `unfolding opened` opens every definition above.
unfoldable pub opened : Unit {0}
unfolding read_outcome read_answer read_after
opened = tt
