-- What a refusal leaves, of every call that takes a buffer: document 01, "Who brings on which number": "Each leaves all
-- lent bytes untouched; its removed count is 0"; "The central machine": "A refused edit leaves the state as it was."
-- For any network, values and bytes, good or not, and whatever the number; by the definitions that the calls' contracts
-- cite. Nothing here is proved. Assumes nothing.
use Rattle.std.specs.Prelude.{ℕ, ◌<◌, ◌≡◌, ◌||◌, List, T, eqb, length, ℤ}
use Rattle.base.specs.Lists.{every}
use Rattle.base.specs.Runs.{answers}
use Rattle.numbers.specs.Numbers.{width, with_number}
use Rattle.timetable.specs.Count.{raise_refusal, raise}
use Rattle.timetable.specs.Formats as formats
use Rattle.timetable.specs.declared.NetworkForm.{NetworkForm}
use Rattle.timetable.specs.declared.FileForm.{FileForm}
use Rattle.timetable.specs.Outputs.{output, output_after}
use Rattle.timetable.specs.Turning.{turn_reply, turn_after}
use Rattle.listings.specs.Shift.{refusal_text, shift_text}
use Rattle.text.specs.RefusalLine.{line_refusal}
use Rattle.inspect_lines.specs.Parts.{input_answer, input_after, part_refusal, part_text}
use Rattle.sheet.specs.Sheets.{divide_refusal, after_divide, merge_refusal, after_merge}
use Rattle.machine.specs.Calls.{sheet_answer, sheet_after, division_answer, division_after}
use Rattle.findings.specs.Lists.{sheet_list, area_list, two_list, sheet_list_refusal, area_list_refusal, two_list_refusal}
use Rattle.recheck.specs.Rechecks.{recheck_refusal, recheck_list, area_recheck_refusal, area_recheck_list}
use Rattle.network_writing.specs.Writing.{write_network, network_written}
use Rattle.edit_writing.specs.Writing.{write_edit, edit_written, write_edits, edits_written}
use Rattle.timetable_writing.specs.Writing.{write_timetable, timetable_written}
use Rattle.timetable_files.specs.Calls.{read_answer, read_after}
use Rattle.timetable_files.specs.Inspect.{inspect_answer, inspect_after}
use Rattle.edit_calls.specs.Lists.{run_answer, run_division, run_answers}
use Rattle.projection.specs.Calls.{project_answer, project_after}
use Rattle.demands.specs.Types.{Station, Train, Minute, Area, Edit, Network, Answer, Tally}

-- an edit that is refused, and the bytes before and after
pub record Untouched (told : Answer) (before later : List ℕ) : Type 0 where
  pub none_removed : told.removed ≡ 0
  pub same_bytes : later ≡ before

-- a refusal is a number that is not 0
pub record RefusalsLeaveAll : Type 0 where
  -- an edit on a sheet and on a division
  pub edit_sheet : (n : Network) (e : Edit) (sheet : List ℕ) → ¬ ((sheet_answer n e sheet).refusal ≡ 0)
      → Untouched (sheet_answer n e sheet) sheet (sheet_after n e sheet)
  pub edit_division : (n : Network) (e : Edit) (division : List ℕ) → ¬ ((division_answer n e division).refusal ≡ 0)
      → Untouched (division_answer n e division) division (division_after n e division)
  -- and in a list of edits: none of those that are refused removes a visit
  pub edits_answered : (n : Network) (es : List Edit) (division : List ℕ)
      → T (every (λ a. eqb a.refusal 0 || eqb a.removed 0) (answers (division_after n) (division_answer n) es division))
  -- dividing and merging
  pub divides : (n : Network) (sheet division : List ℕ) → ¬ (divide_refusal n sheet division ≡ 0) → after_divide n sheet division ≡ division
  pub merges : (n : Network) (division sheet : List ℕ) → ¬ (merge_refusal n division sheet ≡ 0) → after_merge n division sheet ≡ sheet
  -- the lists of findings, 13 too
  pub sheet_findings : (n : Network) (sheet out : List ℕ) → ¬ ((output (sheet_list_refusal n sheet) (sheet_list n sheet) out).number ≡ 0)
      → output_after (sheet_list_refusal n sheet) (sheet_list n sheet) out ≡ out
  pub area_findings : (n : Network) (sheet : List ℕ) (a : Area) (out : List ℕ) → ¬ ((output (area_list_refusal n sheet a) (area_list n sheet a) out).number ≡ 0)
      → output_after (area_list_refusal n sheet a) (area_list n sheet a) out ≡ out
  pub pair_findings : (n : Network) (first second : List ℕ) (a b : Area) (out : List ℕ)
      → ¬ ((output (two_list_refusal n first second a b) (two_list n first second a b) out).number ≡ 0)
      → output_after (two_list_refusal n first second a b) (two_list n first second a b) out ≡ out
  -- a list updated after an edit, 13 too
  pub sheet_recheck : (n : Network) (e : Edit) (sheet list out : List ℕ) → ¬ ((output (recheck_refusal n e sheet list) (recheck_list n e sheet list) out).number ≡ 0)
      → output_after (recheck_refusal n e sheet list) (recheck_list n e sheet list) out ≡ out
  pub area_recheck : (n : Network) (e : Edit) (a : Area) (sheet list out : List ℕ)
      → ¬ ((output (area_recheck_refusal n e a sheet list) (area_recheck_list n e a sheet list) out).number ≡ 0)
      → output_after (area_recheck_refusal n e a sheet list) (area_recheck_list n e a sheet list) out ≡ out
  -- files, 13 too
  pub timetable_reading : (form : FileForm) (n : Network) (file sheet : List ℕ) → ¬ (formats.number (read_answer form n file sheet) ≡ 0) → read_after form n file sheet ≡ sheet
  pub inspect_reading : (file sheet : List ℕ) → ¬ ((inspect_answer file sheet).refusal ≡ 0) → inspect_after file sheet ≡ sheet
  pub timetable_writing : (n : Network) (sheet buffer : List ℕ) → ¬ ((write_timetable n sheet buffer).number ≡ 0) → timetable_written n sheet buffer ≡ buffer
  pub network_writing : (n : Network) (buffer : List ℕ) → ¬ ((write_network n buffer).number ≡ 0) → network_written n buffer ≡ buffer
  pub network_turning : (form : NetworkForm) (file buffer : List ℕ) → ¬ ((turn_reply form file buffer).number ≡ 0) → turn_after form file buffer ≡ buffer
  pub edit_writing : (e : Edit) (buffer : List ℕ) → ¬ ((write_edit e buffer).number ≡ 0) → edit_written e buffer ≡ buffer
  pub edits_writing : (file buffer : List ℕ) → ¬ ((write_edits file buffer).number ≡ 0) → edits_written file buffer ≡ buffer
  -- a number, which answers how many bytes it takes
  pub number_writing : (k : ℕ) (buffer : List ℕ) → length buffer < width k → with_number k buffer ≡ buffer
  -- a list of edits from a file: the division and the buffer for the answers
  pub edits_run : (form : FileForm) (n : Network) (file division out : List ℕ) → ¬ ((run_answer form n file division out).number ≡ 0)
      → (run_division form n file division out ≡ division) × (run_answers form n file division out ≡ out)
  -- a projection, and the tally
  pub projecting : (n : Network) (s : Station) (t : Train) (a : Minute) (sheet : List ℕ) (buffer : List ℤ) → ¬ ((project_answer n s t a sheet buffer).number ≡ 0)
      → project_after n s t a sheet buffer ≡ buffer
  pub raising : (y : Tally) (e : Edit) (a : Answer) → ¬ (raise_refusal y a ≡ 0) → raise y e a ≡ y
  -- what the programs print: 13
  pub shift_printing : (input out : List ℕ) → ¬ ((output 0 (shift_text input) out).number ≡ 0) → output_after 0 (shift_text input) out ≡ out
  pub refusal_printing : (k place : ℕ) (out : List ℕ) → ¬ ((output (line_refusal place) (refusal_text k place) out).number ≡ 0)
      → output_after (line_refusal place) (refusal_text k place) out ≡ out
  pub inspect_printing : (n : Network) (sheet bytes : List ℕ) (k : ℕ) (out : List ℕ)
      → ¬ ((output (part_refusal n sheet bytes) (part_text n sheet bytes k) out).number ≡ 0)
      → output_after (part_refusal n sheet bytes) (part_text n sheet bytes k) out ≡ out
  pub input_reading : (input sheet : List ℕ) → ¬ ((input_answer input sheet).refusal ≡ 0) → input_after input sheet ≡ sheet
