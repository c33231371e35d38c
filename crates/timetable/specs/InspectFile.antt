-- The input of `inspect`: a network file and then a timetable file, in one. Document 01, "Files" and "Who brings on
-- which number". Assumes nothing.
use Rattle.std.specs.Prelude.{ℕ, List}
use Rattle.timetable.specs.Types.{Network}
use Rattle.timetable.specs.Machine.{Timetable}
use Rattle.timetable.specs.Formats.{Format, done, ◌and_then◌, Outcome, accepted, behind, read_file, Placed, placed}
use Rattle.timetable.specs.FileForms.{newest_form}
use Rattle.timetable.specs.NetworkFile.{Listed, network_format, network_of, network_fault, unless_fault}
use Rattle.timetable.specs.TimetableFile.{Entries, timetable_format, timetable_of}

-- what the file holds, and the place of the timetable's first byte
pub record Inspection : Type 0 where
  pub network : Network
  pub first : ℕ
  pub timetable : Timetable

-- what the file lists, before the network's lines and the timetable's entries are tested
pub record Both : Type 0 where
  pub listed : Listed
  pub entries : Placed Entries

unfoldable pub inspect_format : Format Both
inspect_format = network_format and_then (λ x. placed (timetable_format newest_form) and_then (λ es. done (record { listed = x; entries = es })))

unfoldable pub inspection : Both → ℕ → Outcome Inspection
inspection x next =
    behind (timetable_of (network_of x.listed) x.entries.entry next) (λ m next.
    accepted (record { network = network_of x.listed; first = x.entries.place; timetable = m }) next)

-- "in files the first faulty number by place, then 4"; "A timetable file is then tested for 7 and 12, entry by entry."
unfoldable pub read_inspect : List ℕ → Outcome Inspection
read_inspect file = behind (read_file inspect_format file) (λ x next. unless_fault (network_fault x.listed) (inspection x next))

-- The key ring of this module: `unfolding opened` opens every definition above.
unfoldable pub opened : Unit {0}
unfolding inspect_format inspection read_inspect
opened = tt
