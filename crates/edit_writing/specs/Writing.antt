-- The calls that write edits: what they answer, and the buffer afterwards. "Order: .. 3, .. 13"; the bytes are those of
-- the numbers of timetable EditsFile. Assumes nothing.
use Rattle.std.specs.Prelude.{ℕ, ◌+◌, ◌≡◌, not, List, length}
use Rattle.base.specs.Choice.{◌if◌else◌}
use Rattle.railway.specs.declared.edit.Edit.{Edit}
use Rattle.railway.specs.Edits.{edit_ok}
use Rattle.timetable.specs.Formats.{accepted, number, value_or, read, bytes_of}
use Rattle.timetable.specs.FileForms.{newest_form}
use Rattle.timetable.specs.EditsFile.{edit_numbers, edits_on, read_edits, edits_numbers}
use Rattle.timetable.specs.Outputs.{Reply, output, output_after, put}
use Rattle.edit_files.specs.Answers.{no_edits}

-- 3, 13; a report from the future is written: 15 is "the edit's answer, never a file's"
unfoldable pub range_refusal : Edit → ℕ
range_refusal e = 3 if not (edit_ok e) else 0

unfoldable pub write_edit : Edit → List ℕ → Reply
write_edit e buffer = output (range_refusal e) (bytes_of (edit_numbers newest_form e)) buffer

unfoldable pub edit_written : Edit → List ℕ → List ℕ
edit_written e buffer = output_after (range_refusal e) (bytes_of (edit_numbers newest_form e)) buffer

-- a list of edits, lent as a file that reads to it: the file's refusal, 13

unfoldable pub edits_bytes : List ℕ → List ℕ
edits_bytes file = bytes_of (edits_numbers newest_form (value_or no_edits (read_edits file)).entry)

unfoldable pub write_edits : List ℕ → List ℕ → Reply
write_edits file buffer = output (number (read_edits file)) (edits_bytes file) buffer

unfoldable pub edits_written : List ℕ → List ℕ → List ℕ
edits_written file buffer = output_after (number (read_edits file)) (edits_bytes file) buffer

-- where so many edits of a file can be read from a place on, their numbers were put into a buffer from `at` on, and r
-- is the place behind
abbrev pub PutsList : List ℕ → ℕ → ℕ → (List Edit → List ℕ) → ℕ → List ℕ → ℕ → List ℕ → Type 0
PutsList file first count numbers at before r after =
    (es : List Edit) (end : ℕ) → read (edits_on newest_form count) file first ≡ accepted es end
    → (r ≡ at + length (bytes_of (numbers es))) × (after ≡ put at (bytes_of (numbers es)) before)

-- The key ring of this module: `unfolding opened` opens every definition above.
unfoldable pub opened : Unit {0}
unfolding range_refusal write_edit edit_written edits_bytes write_edits edits_written
opened = tt
