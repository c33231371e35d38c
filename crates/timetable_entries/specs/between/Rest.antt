-- A timetable that stands from a place of a file to its end, read under a network: the part that a timetable file and
-- the input of `inspect` share. timetable_files CallLaws and InspectLaws say that it is what their definitions have
-- behind the network. Assumes nothing.
use Rattle.std.specs.Prelude.{ℕ, List, eqb, length}
use Rattle.std.specs.Prelude.{if◌then◌else◌}
use Rattle.timetable.specs.declared.FileForm.{FileForm}
use Rattle.timetable.specs.declared.Fault.{Fault}
use Rattle.timetable.specs.Formats.{Outcome, refused, behind, read, ended}
use Rattle.timetable.specs.Machine.{Timetable}
use Rattle.timetable.specs.NetworkFile.{unless_fault}
use Rattle.timetable.specs.TimetableFile.{timetable_format, timetable_of}
use Rattle.timetable_entries.specs.Types.{Network}

-- "in files the first faulty number by place, then 4. A timetable file is then tested for 7 and 12, entry by entry."
-- The fault is what the whole network is refused with, if anything.
unfoldable pub rest_of : FileForm → Network → Fault → List ℕ → ℕ → Outcome Timetable
rest_of form n f file at = behind (ended file (read (timetable_format form) file at)) (λ x next. unless_fault f (timetable_of n x next))

-- 5 comes before all else
unfoldable pub rest_outcome : FileForm → Network → Fault → List ℕ → ℕ → List ℕ → Outcome Timetable
rest_outcome form n f file at sheet = if eqb (length sheet) 8192 then rest_of form n f file at else refused 5 0

-- The key ring of this module: `unfolding opened` opens every definition above.
unfoldable pub opened : Unit {0}
unfolding rest_of rest_outcome
opened = tt
