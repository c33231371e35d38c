-- The call that writes, case by case: refused, too short, and written. Assumes nothing.
use Prim.Native.Nat.{ℕ, ◌<◌, ◌≤◌}
use mathlib.Core.Path.{◌≡◌, ◌∙◌, ap}
use mathlib.Core.Bool.{true, false, not}
use mathlib.Core.List.{List}
use lib.Dec.{eqb}
use lib.ListN.{length}
use borrow.Author.Tests.{eq-eqb, ne_eqb}
use Rattle.std.specs.Prelude.{Result, Ok, Err}
use Rattle.base.specs.RefusalNumbers.{number_of}
use Rattle.base.specs.declared.refusal.Refusal.TheVariants.{WrongLength, BadSheet}
use Rattle.base.specs.Choice.{◌if◌else◌}
use Rattle.std.specs.Prelude.{if◌then◌else◌}
use Rattle.network.specs.Networks.{network_refusal, listed}
use Rattle.timetable.specs.Formats.{bytes_of}
use Rattle.timetable.specs.Outputs.{reply_of, put}
use Rattle.timetable.specs.Refusals.{or_else, call_refusal}
use Rattle.timetable.proofs.OutputLaws.{number_there, refused_with, short_of, filled}
use Rattle.sheet.specs.Sheets.{decode_sheet, good_sheet, whole_refusal}
use Rattle.sheet.specs.declared.test.Extent.{Extent}
use Rattle.sheet.specs.between.Passes.{sheet_passes}
use Rattle.sheet.proofs.PassLaws.{whole_test}
use Rattle.timetable_writing.specs.Types.{Refusal, OutputError, Network}
use Rattle.timetable_writing.specs.between.Parts.{file_rows}
use Rattle.timetable_writing.specs.Writing.{timetable_bytes, write_timetable, timetable_written}
use Rattle.timetable_writing.proofs.TimetableLaws.{rows_numbers}

-- the timetable that a sheet holds
module _ (n : Network) (sheet out : List ℕ) where
  -- the answer and the buffer afterwards
  abbrev Answers : Result ℕ OutputError → List ℕ → Type 0
  Answers r later = (reply_of r ≡ write_timetable n sheet out) × (later ≡ timetable_written n sheet out)

  refused : (r : Refusal) → whole_refusal n sheet ≡ number_of r → Answers (Err (OutputError.Refused r)) out
  unfolding write_timetable timetable_written
  refused r e = rw e (refused_with (timetable_bytes n sheet) out r)

  pub timetable_no_sheet : ¬ (length sheet ≡ 8192) → Answers (Err (OutputError.Refused WrongLength)) out
  unfolding call_refusal
  timetable_no_sheet d = refused WrongLength (rw (ne_eqb (length sheet) 8192 d))

  module _ (size : length sheet ≡ 8192) where
    tested : whole_refusal n sheet ≡ (if eqb (network_refusal n) 0 then 6 if not (good_sheet n (listed n) sheet) else 0 else network_refusal n)
    unfolding call_refusal or_else
    tested = rw (eq-eqb (length sheet) 8192 size)

    pub timetable_bad_network : (r : Refusal) → number_of r ≡ network_refusal n → Answers (Err (OutputError.Refused r)) out
    timetable_bad_network r e = refused r (tested ∙ rw (← e, ne_eqb (number_of r) 0 (number_there r)))

    module _ (good : network_refusal n ≡ 0) where
      passed : whole_refusal n sheet ≡ (6 if not (sheet_passes n Extent.Whole sheet) else 0)
      passed = tested ∙ rw (good, ← whole_test n sheet size)

      pub timetable-bad-sheet : sheet_passes n Extent.Whole sheet ≡ false → Answers (Err (OutputError.Refused BadSheet)) out
      timetable-bad-sheet e = refused BadSheet (passed ∙ rw e)

      module _ (pass : sheet_passes n Extent.Whole sheet ≡ true) (k : ℕ) (needed : k ≡ length (bytes_of (file_rows n (decode_sheet sheet)))) where
        accepted : whole_refusal n sheet ≡ 0
        accepted = passed ∙ rw pass

        written : bytes_of (file_rows n (decode_sheet sheet)) ≡ timetable_bytes n sheet
        unfolding timetable_bytes
        written = ap bytes_of (rows_numbers n (decode_sheet sheet))

        pub timetable-short : length out < k → Answers (Err (OutputError.TooShort k)) out
        unfolding write_timetable timetable_written
        timetable-short h = rw accepted (short_of (timetable_bytes n sheet) out k (needed ∙ ap length written) h)

        pub timetable-fits : k ≤ length out → Answers (Ok k) (put 0 (bytes_of (file_rows n (decode_sheet sheet))) out)
        unfolding write_timetable timetable_written
        timetable-fits h = rw (accepted, written) (filled (timetable_bytes n sheet) out k (needed ∙ ap length written) h)
