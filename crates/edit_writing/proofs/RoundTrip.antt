-- An accepted edits file is the bytes of its edits' numbers (roundtrips EditTrips), and these are what the call writes.
-- Assumes nothing.
use mathlib.Core.Path.{◌≡◌, refl, sym, ◌∙◌}
use lib.ListN.{length}
use Rattle.timetable.specs.Formats.{number, value_or, bytes_of}
use Rattle.timetable.specs.FileForms.{newest_form}
use Rattle.timetable.specs.EditsFile.{edits_numbers}
use Rattle.timetable.specs.Outputs.{reply_of}
use Rattle.timetable.proofs.BuffersFilled.{put_whole}
use Rattle.timetable.proofs.OutputLaws.{filled}
use Rattle.roundtrips.proofs.EditTrips.{edits_trip}
use Rattle.edit_writing.specs.Writing.{edits_bytes, write_edits, edits_written}
use Rattle.edit_writing.specs.RoundTrip.{EditsComeBack}

pub edits_come_back : EditsComeBack
unfolding write_edits edits_written edits_bytes number value_or reply_of
edits_come_back file buffer es next b e h =
    let same : bytes_of (edits_numbers newest_form es.entry) ≡ file = sym ((edits_trip newest_form).only file es next b e).file_is in
    let x = filled file buffer (length file) refl h in
    rw (e, same) (sym x.0, sym x.1 ∙ put_whole file buffer h)
