-- An accepted edits file, read and written by the calls, is the same file. Assumes nothing.
use Rattle.std.specs.Prelude.{ℕ, ◌≤◌, ◌≡◌, List, ◌++◌, length, drop}
use Rattle.railway.specs.declared.edit.Edit.{Edit}
use Rattle.timetable.specs.Outputs.{written}
use Rattle.timetable.specs.Formats.{accepted, Placed}
use Rattle.timetable.specs.EditsFile.{read_edits}
use Rattle.roundtrips.specs.RoundTrips.{Bytes}
use Rattle.edit_writing.specs.Writing.{write_edits, edits_written}

abbrev pub EditsComeBack : Type 0
EditsComeBack =
    (file buffer : List ℕ) (es : Placed (List Edit)) (next : ℕ) → Bytes file → read_edits file ≡ accepted es next → length file ≤ length buffer
    → (write_edits file buffer ≡ written (length file)) × (edits_written file buffer ≡ file ++ drop (length file) buffer)
