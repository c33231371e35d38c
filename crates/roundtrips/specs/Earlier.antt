-- Files of the earlier form and of the newest hold the same, where no mark is 1 and every report carries the last
-- minute. Document 02, W6: "Old files are read as before by naming the earlier form when reading, and their visits get
-- mark 0; what is written is the new form, and round trips are compared in that form"; W7: "A report read in W6's
-- earlier form carries 2879." The proofs are in proofs/EarlierTrips; nothing here is proved. The letters are those of
-- RoundTrips. Assumes nothing.
use Rattle.std.specs.Prelude.{ℕ, ◌≤◌, ◌≡◌, not, List, T, length}
use Rattle.base.specs.Lists.{every}
use Rattle.numbers.specs.Numbers.{width}
use Rattle.railway.specs.Edits.{edit_ok}
use Rattle.network.specs.Networks.{network_refusal}
use Rattle.timetable.specs.declared.FileForm.{FileForm}
use Rattle.timetable.specs.Formats.{accepted, bytes_of, Placed}
use Rattle.timetable.specs.FileForms.{newest_form}
use Rattle.timetable.specs.EditsFile.{edit_said, read_edits_as, edits_numbers}
use Rattle.timetable.specs.Machine.{Timetable}
use Rattle.timetable.specs.Good.{Whole}
use Rattle.timetable.specs.TimetableFile.{read_timetable_as, timetable_numbers_as}
use Rattle.roundtrips.specs.Types.{Station, Edit, Network}
use Rattle.roundtrips.specs.RoundTrips.{Bytes}

-- edits

-- the file of edits in a form
abbrev pub edits_file : FileForm → List Edit → List ℕ
edits_file form es = bytes_of (edits_numbers form es)

-- what an earlier file reads to has no mark and only the last minute, and the newest file of the same edits reads to
-- it, the place of the first edit too
abbrev pub EarlierEdits : Type 0
EarlierEdits = (file : List ℕ) (es : Placed (List Edit)) (next : ℕ) → Bytes file → read_edits_as FileForm.Earlier file ≡ accepted es next
    → T (every (edit_said FileForm.Earlier) es.entry)
    × (read_edits_as newest_form (edits_file newest_form es.entry) ≡ accepted es (length (edits_file newest_form es.entry)))

-- edits with no mark and, of reports, with the last minute are read from their earlier file
abbrev pub SaidEdits : Type 0
SaidEdits = (es : List Edit) → length es ≤ 1000 → T (every edit_ok es) → T (every (edit_said FileForm.Earlier) es)
    → read_edits_as FileForm.Earlier (edits_file FileForm.Earlier es)
    ≡ accepted (record { place = width (length es); entry = es }) (length (edits_file FileForm.Earlier es))

-- timetables

abbrev pub timetable_file : FileForm → Network → Timetable → List ℕ
timetable_file form n m = bytes_of (timetable_numbers_as form n m)

-- no visit has a mark
abbrev pub Unmarked : Timetable → Type 0
Unmarked m = (k : Station) → T (every (λ e. not e.visit.marked) (m k).visits)

-- what an earlier file reads to has no mark, and the newest file of it reads to it
abbrev pub EarlierTimetables : Type 0
EarlierTimetables = (n : Network) (file : List ℕ) (m : Timetable) (next : ℕ) → Bytes file → read_timetable_as FileForm.Earlier n file ≡ accepted m next
    → Unmarked m × (read_timetable_as newest_form n (timetable_file newest_form n m) ≡ accepted m (length (timetable_file newest_form n m)))

-- a whole timetable with no mark is read from its earlier file
abbrev pub UnmarkedTimetables : Type 0
UnmarkedTimetables = (n : Network) (m : Timetable) → network_refusal n ≡ 0 → Whole n m → Unmarked m
    → read_timetable_as FileForm.Earlier n (timetable_file FileForm.Earlier n m) ≡ accepted m (length (timetable_file FileForm.Earlier n m))
