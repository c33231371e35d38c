-- A refusal leaves all bytes as they were. Of an edit: where its sheets are tested, the call is the edit on pages
-- (machine CallLaws), which writes a page only where it is not refused; before that the definitions leave the buffer.
-- The other calls by their definitions. Assumes nothing.
use Prim.Native.Nat.{ℕ}
use mathlib.Core.Path.{◌≡◌, refl, sym, ◌∙◌, ap}
use mathlib.Core.Bool.{Bool, ◌||◌}
use mathlib.Core.List.{List, [], ◌∷◌}
use lib.Dec.{T, leb, eqb}
use lib.ListN.{length}
use borrow.Author.Tests.{eqb-true, eqb-false, eq-eqb, ne_eqb, lt-leb}
use Rattle.base.specs.Lists.{every}
use Rattle.base.specs.Runs.{answers}
use Rattle.base.proofs.Tests.{by_value, true_T, both, or_l, or_r}
use Rattle.numbers.specs.Numbers.{width, with_number}
use Rattle.network.specs.Networks.{network_refusal, listed}
use Rattle.timetable.specs.Count.{raise_refusal, raise}
use Rattle.timetable.specs.declared.FileForm.{FileForm}
use Rattle.timetable.specs.FileForms.{newest_form}
use Rattle.timetable.specs.EditsFile.{edit_numbers, read_edits, read_edits_as}
use Rattle.timetable.specs.Formats as formats
use Rattle.timetable.specs.Formats.{Outcome, accepted, refused, Placed, bytes_of}
use Rattle.timetable.specs.InspectFile.{Inspection}
use Rattle.timetable.specs.Machine.{Timetable}
use Rattle.timetable.specs.NetworkFile.{network_numbers, read_network_as}
use Rattle.timetable.specs.Outputs.{output, output_after}
use Rattle.timetable.specs.Turning.{turned, turned_reply, turned_after, turn_reply, turn_after}
use Rattle.timetable.proofs.RefusalLaws.{call_passed}
use Rattle.actions.specs.Early.{early_refusal}
use Rattle.actions.proofs.EarlyLaws.{early_facts}
use Rattle.listings.specs.Shift.{refusal_text, shift_text}
use Rattle.text.specs.RefusalLine.{line_refusal}
use Rattle.inspect_lines.specs.Parts.{input_outcome, input_answer, input_after, part_refusal, part_text}
use Rattle.sheet.specs.Sheets.{good_sheet, whole_refusal, divide_refusal, after_divide, merge_refusal, after_merge}
use Rattle.machine.specs.Calls.{sheet_refusal, sheet_answer, sheet_after, named_good, division_refusal, division_answer, division_after}
use Rattle.page_edits.specs.declared.Layout.{Layout}
use Rattle.page_edits.specs.between.PageEdits.{frames_refusal, frames_answer, frames_after}
use Rattle.page_edits.proofs.PairSteps.{frames_told, frames_left}
use Rattle.machine.proofs.EditCalls.{sheet_answers, sheet_bytes, division_answers, division_bytes, sheet_is, sheet_not, division_is, division_not}
use Rattle.findings.specs.Lists.{sheet_list, area_list, two_list, sheet_list_refusal, area_list_refusal, two_list_refusal}
use Rattle.recheck.specs.Rechecks.{recheck_refusal, recheck_list, area_recheck_refusal, area_recheck_list}
use Rattle.network_writing.specs.Writing.{write_network, network_written}
use Rattle.edit_writing.specs.Writing.{edits_bytes, range_refusal, write_edit, edit_written, write_edits, edits_written}
use Rattle.timetable_writing.specs.Writing.{timetable_bytes, write_timetable, timetable_written}
use Rattle.fields.specs.Outcomes.{end_of}
use Rattle.timetable_entries.specs.Answers as sheetfile
use Rattle.timetable_files.specs.Calls.{read_outcome, read_answer, read_after}
use Rattle.timetable_files.specs.Inspect.{inspect_outcome, inspect_read, inspect_sheet, inspect_answer, inspect_after}
use Rattle.edit_calls.specs.Lists.{answers_of, told_run, division_left, answers_left, run_answer, run_division, run_answers}
use Rattle.projection.specs.Calls.{project_refusal, projected, project_answer, project_after}
use Rattle.demands.specs.Types.{Edit, Network, Answer}
use Rattle.demands.specs.Refusals.{Untouched, RefusalsLeaveAll}

-- an edit on pages that is refused

frames_refused : (layout : Layout) (n : Network) (e : Edit) (b : List ℕ) → ¬ ((frames_answer layout n e b).refusal ≡ 0)
    → Untouched (frames_answer layout n e b) b (frames_after layout n e b)
frames_refused layout n e b z =
    let q : ¬ (frames_refusal layout n e b ≡ 0) = λ r. z (rw (frames_told layout n e b) r) in
    record { none_removed = rw (frames_told layout n e b, ne_eqb (frames_refusal layout n e b) 0 q); same_bytes = rw (frames_left layout n e b, ne_eqb (frames_refusal layout n e b) 0 q) }

-- refused before a sheet is looked at, or as the edit on pages is

sheet_refused : (n : Network) (e : Edit) (sheet : List ℕ) → ¬ ((sheet_answer n e sheet).refusal ≡ 0) → Untouched (sheet_answer n e sheet) sheet (sheet_after n e sheet)
unfolding sheet_refusal
sheet_refused n e sheet z = by_value (eqb (sheet_refusal n e sheet) 0)
    (λ b.
    let r : sheet_refusal n e sheet ≡ 0 = eqb-true (sheet_refusal n e sheet) 0 b in
    let p = call_passed (eqb (length sheet) 8192) (early_refusal n e) (good_sheet n (listed n) sheet) 0 r in
    let early = early_facts n e p.1 in
    let size : length sheet ≡ 8192 = eqb-true (length sheet) 8192 p.0 in
    let fine : T (good_sheet n (listed n) sheet) = true_T (good_sheet n (listed n) sheet) p.2 in
    let told : sheet_answer n e sheet ≡ frames_answer Layout.Sheet n e sheet = (sheet_is n e sheet r).0 ∙ sym (sheet_answers n e early sheet size fine) in
    let left : sheet_after n e sheet ≡ frames_after Layout.Sheet n e sheet = (sheet_is n e sheet r).1 ∙ sym (sheet_bytes n e early sheet size fine) in
    rw (told, left) (frames_refused Layout.Sheet n e sheet (rw told at z)))
    (λ b.
    let (told, left) = sheet_not n e sheet (sheet_refusal n e sheet) refl (eqb-false (sheet_refusal n e sheet) 0 b) in
    record { none_removed = ap (λ (x : Answer). x.removed) told; same_bytes = left })

division_refused : (n : Network) (e : Edit) (division : List ℕ) → ¬ ((division_answer n e division).refusal ≡ 0)
    → Untouched (division_answer n e division) division (division_after n e division)
unfolding division_refusal
division_refused n e division z = by_value (eqb (division_refusal n e division) 0)
    (λ b.
    let r : division_refusal n e division ≡ 0 = eqb-true (division_refusal n e division) 0 b in
    let p = call_passed (eqb (length division) 49152) (early_refusal n e) (named_good n e division) 0 r in
    let early = early_facts n e p.1 in
    let size : length division ≡ 49152 = eqb-true (length division) 49152 p.0 in
    let fine : T (named_good n e division) = true_T (named_good n e division) p.2 in
    let told : division_answer n e division ≡ frames_answer Layout.Division n e division = (division_is n e division r).0 ∙ sym (division_answers n e early division size fine) in
    let left : division_after n e division ≡ frames_after Layout.Division n e division = (division_is n e division r).1 ∙ sym (division_bytes n e early division size fine) in
    rw (told, left) (frames_refused Layout.Division n e division (rw told at z)))
    (λ b.
    let (told, left) = division_not n e division (division_refusal n e division) refl (eqb-false (division_refusal n e division) 0 b) in
    record { none_removed = ap (λ (x : Answer). x.removed) told; same_bytes = left })

edits_refused_none : (n : Network) (es : List Edit) (division : List ℕ)
    → T (every (λ a. eqb a.refusal 0 || eqb a.removed 0) (answers (division_after n) (division_answer n) es division))
unfolding answers every
edits_refused_none n [] division = tt
edits_refused_none n (e ∷ es) division =
    both (eqb told.refusal 0 || eqb told.removed 0) (every ok (answers (division_after n) (division_answer n) es (division_after n e division))) one
    (edits_refused_none n es (division_after n e division))
  where
    told : Answer
    told = division_answer n e division

    ok : Answer → Bool
    ok a = eqb a.refusal 0 || eqb a.removed 0

    one : T (ok told)
    one = by_value (eqb told.refusal 0)
        (λ q. or_l (eqb told.refusal 0) (eqb told.removed 0) (true_T (eqb told.refusal 0) q))
        (λ q. or_r (eqb told.refusal 0) (eqb told.removed 0)
        (true_T (eqb told.removed 0) (eq-eqb told.removed 0 (division_refused n e division (eqb-false told.refusal 0 q)).none_removed)))

-- what is written into a lent buffer: nothing where it is too short, nothing on a refusal
output_refused : {X : Type 0} (k : ℕ) (xs buffer : List X) → ¬ ((output k xs buffer).number ≡ 0) → output_after k xs buffer ≡ buffer
unfolding output output_after
output_refused k xs buffer z = by_value (eqb k 0)
    (λ b. by_value (leb (length xs) (length buffer))
    (λ c. absurd (z (rw (b, c))))
    (λ c. rw (b, c)))
    (λ b. rw b)

read_refused : (o : Outcome Timetable) (sheet : List ℕ) → ¬ (formats.number (end_of o) ≡ 0) → sheetfile.sheet_of o sheet ≡ sheet
unfolding formats.number end_of sheetfile.sheet_of
read_refused (accepted m next) sheet z = absurd (z refl)
read_refused (refused k p) sheet z = refl

inspect_refused : (o : Outcome Inspection) (sheet : List ℕ) → ¬ ((inspect_read o).refusal ≡ 0) → inspect_sheet o sheet ≡ sheet
unfolding inspect_read formats.number formats.place_of formats.value_or inspect_sheet
inspect_refused (accepted x next) sheet z = absurd (z refl)
inspect_refused (refused k p) sheet z = refl

-- an old network file: refused, or turned into too short a buffer
turned_refused : (o : Outcome Network) (buffer : List ℕ) → ¬ ((turned_reply o buffer).number ≡ 0) → turned_after o buffer ≡ buffer
unfolding turned_reply turned_after
turned_refused (accepted n next) buffer z = output_refused 0 (turned n) buffer z
turned_refused (refused k p) buffer z = refl

-- a list of edits: refused by its file, or too little room for its answers
list_refused : (n : Network) (division out : List ℕ) (o : Outcome (Placed (List Edit))) → ¬ ((told_run n division out o).number ≡ 0)
    → (division_left n division out o ≡ division) × (answers_left n division out o ≡ out)
unfolding told_run division_left answers_left output output_after
list_refused n division out (accepted x next) z = by_value (leb (length (answers_of n x.entry division)) (length out))
    (λ c. absurd (z (rw c)))
    (λ c. (rw c, rw c))
list_refused n division out (refused k p) z = (refl, refl)

edits_refused : (form : FileForm) (n : Network) (file division out : List ℕ) → ¬ ((run_answer form n file division out).number ≡ 0)
    → (run_division form n file division out ≡ division) × (run_answers form n file division out ≡ out)
unfolding run_answer run_division run_answers
edits_refused form n file division out z = by_value (eqb (length division) 49152)
    (λ b. rw b (list_refused n division out (read_edits_as form file) (rw b at z)))
    (λ b. rw b (refl, refl))

pub refusals_leave_all : RefusalsLeaveAll
unfolding with_number turn_reply turn_after project_answer project_after raise inspect_answer inspect_after input_answer input_after after_divide after_merge read_answer read_after write_timetable timetable_written write_network network_written write_edit edit_written write_edits edits_written
refusals_leave_all = record {
  edit_sheet = sheet_refused;
  edit_division = division_refused;
  edits_answered = edits_refused_none;
  divides = λ n sheet division z. rw (ne_eqb (divide_refusal n sheet division) 0 z);
  merges = λ n division sheet z. rw (ne_eqb (merge_refusal n division sheet) 0 z);
  sheet_findings = λ n sheet out. output_refused (sheet_list_refusal n sheet) (sheet_list n sheet) out;
  area_findings = λ n sheet a out. output_refused (area_list_refusal n sheet a) (area_list n sheet a) out;
  pair_findings = λ n first second a b out. output_refused (two_list_refusal n first second a b) (two_list n first second a b) out;
  sheet_recheck = λ n e sheet list out. output_refused (recheck_refusal n e sheet list) (recheck_list n e sheet list) out;
  area_recheck = λ n e a sheet list out. output_refused (area_recheck_refusal n e a sheet list) (area_recheck_list n e a sheet list) out;
  timetable_reading = λ form n file sheet. read_refused (read_outcome form n file sheet) sheet;
  inspect_reading = λ file sheet. inspect_refused (inspect_outcome file sheet) sheet;
  timetable_writing = λ n sheet buffer. output_refused (whole_refusal n sheet) (timetable_bytes n sheet) buffer;
  network_writing = λ n buffer. output_refused (network_refusal n) (bytes_of (network_numbers n)) buffer;
  network_turning = λ form file buffer. turned_refused (read_network_as form file) buffer;
  edit_writing = λ e buffer. output_refused (range_refusal e) (bytes_of (edit_numbers newest_form e)) buffer;
  edits_writing = λ file buffer. output_refused (formats.number (read_edits file)) (edits_bytes file) buffer;
  number_writing = λ k buffer h. rw (lt-leb (width k) (length buffer) h);
  edits_run = edits_refused;
  projecting = λ n s t a sheet buffer. output_refused (project_refusal n s t a sheet) (projected s t a sheet) buffer;
  raising = λ y e a z. rw (ne_eqb (raise_refusal y a) 0 z);
  shift_printing = λ input out. output_refused 0 (shift_text input) out;
  refusal_printing = λ k place out. output_refused (line_refusal place) (refusal_text k place) out;
  inspect_printing = λ n sheet bytes k out. output_refused (part_refusal n sheet bytes) (part_text n sheet bytes k) out;
  input_reading = λ input sheet. inspect_refused (input_outcome input sheet) sheet;
}
