-- Timetable files and sheets give each other back: a good sheet is that of the whole timetable that it holds, and whole
-- timetables come back from their files (formats); what a file gives is whole, so its sheet is good and holds it.
-- Assumes nothing.
use Prim.Native.Nat.{ℕ}
use mathlib.Core.Path.{◌≡◌, refl, sym, ◌∙◌, ap}
use mathlib.Core.Bool.{Bool, true, false}
use mathlib.Core.List.{List}
use native.Mathlib.Omega.{arith}
use lib.Dec.{eqb}
use lib.ListN.{length}
use borrow.Author.Tests.{eq-eqb, eqb-true}
use Rattle.std.specs.Prelude.{if◌then◌else◌}
use Rattle.timetable.specs.declared.FileForm.{FileForm}
use Rattle.timetable.specs.FileForms.{newest_form}
use Rattle.timetable.specs.Formats.{Outcome, accepted, refused, bytes_of}
use Rattle.timetable.specs.Machine.{Timetable}
use Rattle.timetable.specs.TimetableFile.{read_timetable_as, read_timetable, timetable_numbers}
use Rattle.fields.specs.Outcomes.{end_of}
use Rattle.fields.proofs.EndLaws.{end_accepted}
use Rattle.sheet.specs.Sheets.{encode_sheet, decode_sheet}
use Rattle.machine.proofs.ByteEdits.{whole_of, sheet_of}
use Rattle.roundtrips.specs.RoundTrips.{Bytes}
use Rattle.roundtrips.proofs.TimetableTrips.{timetable_said_newest, timetable_trip}
use Rattle.timetable_writing.specs.Writing.{timetable_bytes}
use Rattle.timetable_entries.specs.Answers as rest
use Rattle.timetable_files.specs.Calls.{read_outcome, read_answer, read_after}
use Rattle.machine.proofs.WholeSheets.{whole_good, whole_back}
use Rattle.demands.specs.Types.{Network}
use Rattle.demands.specs.Files.{FileBack, EarlierBack, SheetsComeBack, FilesComeBack, EarlierFilesComeBack}

pub sheets_come_back : SheetsComeBack
unfolding timetable_bytes read_answer read_after read_outcome end_of rest.sheet_of
sheets_come_back n good sheet size fine buffer room =
    let r = (timetable_trip newest_form).back n (decode_sheet sheet) good (whole_of n good sheet size fine) (timetable_said_newest (decode_sheet sheet)) in
    record {
      taken = rw (eq-eqb (length buffer) 8192 room, r);
      same = rw (eq-eqb (length buffer) 8192 room, r) (sym (sheet_of n good sheet size fine));
    }

-- what is taken was accepted, and the buffer had its length
read_by : (b : Bool) (o : Outcome Timetable) (m : Timetable) (next : ℕ) → (if b then o else refused 5 0) ≡ accepted m next → o ≡ accepted m next
read_by true o m next e = e
read_by false o m next e = let s : ◌≡◌ {A = ℕ} 0 1 = cc in absurd (omega (arith, s))

-- and the buffer had a sheet's length
room_of : (form : FileForm) (n : Network) (file buffer : List ℕ) (m : Timetable) (next : ℕ) → read_outcome form n file buffer ≡ accepted m next → length buffer ≡ 8192
unfolding read_outcome
room_of form n file buffer m next e = eqb-true (length buffer) 8192 (go (eqb (length buffer) 8192) (read_timetable_as form n file) e)
  where
    go : (b : Bool) (o : Outcome Timetable) → (if b then o else refused 5 0) ≡ accepted m next → b ≡ true
    go true o q = refl
    go false o q = let s : ◌≡◌ {A = ℕ} 0 1 = cc in absurd (omega (arith, s))

file_back : (n : Network) (file buffer : List ℕ) (m : Timetable) (next : ℕ) → Bytes file → read_outcome newest_form n file buffer ≡ accepted m next → FileBack n file buffer
unfolding timetable_bytes read_after rest.sheet_of read_outcome
file_back n file buffer m next bytes e =
    let t = (timetable_trip newest_form).only n file m next bytes (read_by (eqb (length buffer) 8192) (read_timetable n file) m next e) in
    let g = whole_good n t.network_good m t.whole in
    record {
      size = rw e g.size;
      good = rw e g.fine;
      same = rw e (ap (λ (x : Timetable). bytes_of (timetable_numbers n x)) (whole_back n t.network_good m t.whole) ∙ sym t.file_is);
    }

pub files_come_back : FilesComeBack
unfolding read_answer
files_come_back n file buffer next bytes e =
    let (m, o) = end_accepted (read_outcome newest_form n file buffer) next e in file_back n file buffer m next bytes o

-- a file of the earlier form is that of a whole timetable too
earlier_back : (n : Network) (file buffer : List ℕ) (m : Timetable) (next : ℕ) → Bytes file → length buffer ≡ 8192
    → read_outcome FileForm.Earlier n file buffer ≡ accepted m next → EarlierBack n file buffer
unfolding read_after rest.sheet_of read_outcome
earlier_back n file buffer m next bytes room e =
    let t = (timetable_trip FileForm.Earlier).only n file m next bytes (read_by (eqb (length buffer) 8192) (read_timetable_as FileForm.Earlier n file) m next e) in
    let g = whole_good n t.network_good m t.whole in
    record {
      size = rw e g.size;
      good = rw e g.fine;
      newest = rw e (sheets_come_back n t.network_good (encode_sheet m) g.size g.fine buffer room);
    }

pub earlier_files_come_back : EarlierFilesComeBack
unfolding read_answer
earlier_files_come_back n file buffer next bytes e =
    let (m, o) = end_accepted (read_outcome FileForm.Earlier n file buffer) next e in
    earlier_back n file buffer m next bytes (room_of FileForm.Earlier n file buffer m next o) o
