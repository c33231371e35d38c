-- Demand 3 from the bytes: a good sheet is that of the whole timetable that it holds, of which demand 3 holds; edits on
-- the sheet are the central machine's. The list call, by its definition, is the run of the single calls. Assumes
-- nothing.
use Prim.Native.Nat.{ℕ, ◌*◌, ◌≤◌}
use mathlib.Core.Path.{◌≡◌, sym, ◌∙◌, ap, subst}
use mathlib.Core.Bool.{true}
use mathlib.Core.List.{List}
use native.Mathlib.Omega.{arith}
use lib.Dec.{leb, eqb}
use lib.ListN.{length}
use borrow.Author.Tests.{eq-eqb, le-leb}
use Rattle.base.specs.Runs.{run, answers}
use Rattle.base.proofs.Tests.{T_true}
use Rattle.railway.specs.Ranges.{area_ok}
use Rattle.timetable.specs.declared.FileForm.{FileForm}
use Rattle.timetable.specs.EditsFile.{read_edits_as}
use Rattle.timetable.specs.Formats.{accepted, Placed}
use Rattle.timetable.specs.Machine.{after}
use Rattle.timetable.specs.Outputs.{written, output, output_after}
use Rattle.theory.specs.Reordering.{along}
use Rattle.sheet.specs.Sheets.{encode_sheet, decode_sheet, sheet_at, area_part, divided, merged}
use Rattle.sheet.proofs.SheetLaws.{merged_divided, merged_size, merged_good, divided_merged, divided_size}
use Rattle.machine.specs.Calls.{sheet_after, division_answer, division_after}
use Rattle.machine.proofs.ByteEdits.{whole_of, sheet_of}
use Rattle.machine.proofs.ListEdits.{GoodSheet, sheets_kept}
use Rattle.machine.proofs.CentralEdits.{central_run, central_answers}
use Rattle.edit_calls.specs.Lists.{answers_of, division_of, told_run, division_left, answers_left, run_answer, run_division, run_answers}
use Rattle.edit_calls.proofs.RunLaws.{answers_length}
use Rattle.demands.specs.Types.{Edit, Network}
use Rattle.demands.specs.Demand.{Demand3}
use Rattle.demands.specs.Bytes.{FromBytes, DemandFromBytes, DemandFromDivision, PartsAreSheets}
use Rattle.demands.specs.ListCall.{Ran, ListIsSingleCalls, DemandOfListCall}
use Rattle.demands.proofs.DemandHolds.{demand_holds}

pub parts_are_sheets : PartsAreSheets
unfolding area_part
parts_are_sheets division size a t = sym (rw (eq-eqb (length division) 49152 size, T_true (area_ok a) t))

pub demand_from_bytes : DemandFromBytes
demand_from_bytes n good sheet size fine es ps R =
    let g : GoodSheet n good sheet = record { size = size; fine = fine } in
    let later : GoodSheet n good (run (sheet_after n) es sheet) = sheets_kept n good es sheet g in
    let its : encode_sheet (decode_sheet sheet) ≡ sheet = sym (sheet_of n good sheet size fine) in
    let D : Demand3 n (decode_sheet sheet) es ps = demand_holds n good (decode_sheet sheet) (whole_of n good sheet size fine) es ps R in
    let central : run (sheet_after n) es sheet ≡ encode_sheet (run (after n) es (decode_sheet sheet)) =
    sheet_of n good (run (sheet_after n) es sheet) later.size later.fine ∙ ap encode_sheet (central_run n good es sheet g) in
    let end : run (division_after n) (along es ps) (divided n sheet) ≡ divided n (run (sheet_after n) es sheet) =
    ap (λ (b : List ℕ). run (division_after n) (along es ps) (divided n b)) (sym its) ∙ D.same_division ∙ ap (divided n) (sym central) in
    record {
      its_sheet = its;
      demand = D;
      central_sheet = central;
      same_answers =
          ap (λ (b : List ℕ). answers (division_after n) (division_answer n) (along es ps) (divided n b)) (sym its) ∙ D.same_answers
          ∙ ap (λ (l : List _). along l ps) (sym (central_answers n good es sheet g));
      same_division = end;
      same_parts = λ a t.
          sym (parts_are_sheets (run (division_after n) (along es ps) (divided n sheet)) (ap length end ∙ divided_size n (run (sheet_after n) es sheet) later.size) a t)
          ∙ ap (λ (b : List ℕ). sheet_at (run (division_after n) (along es ps) (divided n b)) a.0) (sym its) ∙ D.same_sheets a t;
      same_merged = ap (merged n) end ∙ merged_divided n good (run (sheet_after n) es sheet) later.size later.fine;
    }

pub demand_from_division : DemandFromDivision
demand_from_division n good division size fine es ps R = (
  divided_merged n good division size fine,
  demand_from_bytes n good (merged n division) (merged_size n good division size) (merged_good n good division size fine) es ps R,
)

-- the list call

accepted_ran : (form : FileForm) (n : Network) (division : List ℕ) → length division ≡ 49152 → (file : List ℕ) (x : Placed (List Edit)) (next : ℕ) → read_edits_as form file ≡ accepted x next
    → (out : List ℕ) → 2 * length x.entry ≤ length out
    → Ran form n file division out x.entry (run (division_after n) x.entry division) (answers (division_after n) (division_answer n) x.entry division)
unfolding run_answer run_division run_answers told_run division_left answers_left answers_of division_of output output_after
accepted_ran form n division size file x next e out room =
    let fits : eqb (length division) 49152 ≡ true = eq-eqb (length division) 49152 size in
    let many : length (answers_of n x.entry division) ≡ 2 * length x.entry = answers_length n x.entry division in
    let fit : leb (length (answers_of n x.entry division)) (length out) ≡ true = le-leb (length (answers_of n x.entry division)) (length out) (omega (arith, many, room)) in
    record {
      told = rw (fits, e, fit) (ap written many);
      left = rw (fits, e, fit);
      answered = rw (fits, e, fit);
    }

pub list_is_single_calls : ListIsSingleCalls
list_is_single_calls form n division size file es (x, next, e, held) out room =
    subst (λ (fs : List Edit). Ran form n file division out fs (run (division_after n) fs division) (answers (division_after n) (division_answer n) fs division)) held
    (accepted_ran form n division size file x next e out (rw held room))

pub demand_of_list_call : DemandOfListCall
demand_of_list_call form n good sheet size fine es ps R file held out room =
    let F : FromBytes n sheet es ps = demand_from_bytes n good sheet size fine es ps R in
    rw (← F.same_division, ← F.same_answers) (list_is_single_calls form n (divided n sheet) (divided_size n sheet size) file (along es ps) held out room)
