-- What is promised of timetable files and sheets, of the calls' bytes: "a timetable written and read is the same
-- sheet", an accepted file read and written is the same file, and a sheet that a file gives is good. By the definitions
-- that the contracts of the reading and the writing call cite (timetable_files Calls, timetable_writing Writing).
-- Nothing here is proved. Assumes nothing.
use Rattle.std.specs.Prelude.{ℕ, ◌≡◌, List, T, length}
use Rattle.network.specs.Networks.{network_refusal, listed}
use Rattle.timetable.specs.declared.FileForm.{FileForm}
use Rattle.timetable.specs.Formats.{accepted}
use Rattle.timetable.specs.FileForms.{newest_form}
use Rattle.sheet.specs.Sheets.{good_sheet}
use Rattle.roundtrips.specs.RoundTrips.{Bytes}
use Rattle.timetable_writing.specs.Writing.{timetable_bytes}
use Rattle.timetable_files.specs.Calls.{read_answer, read_after}
use Rattle.demands.specs.Types.{Network}

-- a good sheet, written and read into any buffer of the right length
pub record SheetBack (n : Network) (sheet buffer : List ℕ) : Type 0 where
  pub taken : read_answer newest_form n (timetable_bytes n sheet) buffer ≡ accepted tt (length (timetable_bytes n sheet))
  pub same : read_after newest_form n (timetable_bytes n sheet) buffer ≡ sheet

-- a file that is taken
pub record FileBack (n : Network) (file buffer : List ℕ) : Type 0 where
  pub size : length (read_after newest_form n file buffer) ≡ 8192
  pub good : T (good_sheet n (listed n) (read_after newest_form n file buffer))
  pub same : timetable_bytes n (read_after newest_form n file buffer) ≡ file

-- a file of the earlier form that is taken: its sheet is good, and is that of the newest file which is written of it.
-- Document 02, W6: "what is written is the new form"
pub record EarlierBack (n : Network) (file buffer : List ℕ) : Type 0 where
  pub size : length (read_after FileForm.Earlier n file buffer) ≡ 8192
  pub good : T (good_sheet n (listed n) (read_after FileForm.Earlier n file buffer))
  pub newest : SheetBack n (read_after FileForm.Earlier n file buffer) buffer

abbrev pub SheetsComeBack : Type 0
SheetsComeBack = (n : Network) → network_refusal n ≡ 0 → (sheet : List ℕ) → length sheet ≡ 8192 → T (good_sheet n (listed n) sheet)
    → (buffer : List ℕ) → length buffer ≡ 8192 → SheetBack n sheet buffer

abbrev pub FilesComeBack : Type 0
FilesComeBack = (n : Network) (file buffer : List ℕ) (next : ℕ) → Bytes file → read_answer newest_form n file buffer ≡ accepted tt next → FileBack n file buffer

abbrev pub EarlierFilesComeBack : Type 0
EarlierFilesComeBack = (n : Network) (file buffer : List ℕ) (next : ℕ) → Bytes file → read_answer FileForm.Earlier n file buffer ≡ accepted tt next → EarlierBack n file buffer
