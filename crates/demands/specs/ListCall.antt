-- The call that runs the edits of a file on a division is the run of single calls of which demand 3 speaks: so demand 3
-- holds of the answers that it writes and of the division that it leaves. Document 01, "Imposter sheets": "Demand 2
-- holds every call, and demand 3 every list, to the machine and findings written here." By the definitions that its
-- contract cites. Nothing here is proved. Assumes nothing.
use Rattle.std.specs.Prelude.{ℕ, ◌*◌, ◌≤◌, ◌≡◌, T, length, drop}
use mathlib.Core.List.{List, ◌++◌, flat_map}
use Rattle.base.specs.Runs.{run, answers}
use Rattle.network.specs.Networks.{network_refusal, listed, area_of}
use Rattle.timetable.specs.declared.FileForm.{FileForm}
use Rattle.timetable.specs.EditsFile.{read_edits_as}
use Rattle.timetable.specs.Formats.{accepted, Placed}
use Rattle.timetable.specs.Outputs.{written}
use Rattle.timetable.specs.Groups.{names_group}
use Rattle.theory.specs.Reordering.{along, Reordering}
use Rattle.sheet.specs.Sheets.{good_sheet, divided}
use Rattle.machine.specs.Calls.{sheet_answer, sheet_after, division_answer, division_after}
use Rattle.edit_calls.specs.Lists.{answer_numbers, run_answer, run_division, run_answers}
use Rattle.demands.specs.Types.{Edit, Network, Answer}

-- the file is accepted in the form, and holds these edits
abbrev pub Holds : FileForm → List ℕ → List Edit → Type 0
Holds form file es = (x : Placed (List Edit)) × (next : ℕ) × (read_edits_as form file ≡ accepted x next) × (x.entry ≡ es)

-- these answers, two numbers each, at the head of the buffer; "a longer one keeps its rest"
abbrev pub with_answers : List Answer → List ℕ → List ℕ
with_answers as' out = flat_map answer_numbers as' ++ drop (length (flat_map answer_numbers as')) out

-- what the call answers, the division that it leaves and the answers that it writes
pub record Ran (form : FileForm) (n : Network) (file division out : List ℕ) (es : List Edit) (later : List ℕ) (as' : List Answer) : Type 0 where
  pub told : run_answer form n file division out ≡ written (2 * length es)
  pub left : run_division form n file division out ≡ later
  pub answered : run_answers form n file division out ≡ with_answers as' out

-- every form, every network, good or not, every division, every accepted file and every buffer with room for two
-- numbers an edit
abbrev pub ListIsSingleCalls : Type 0
ListIsSingleCalls = (form : FileForm) (n : Network) (division : List ℕ) → length division ≡ 49152 → (file : List ℕ) (es : List Edit) → Holds form file es
    → (out : List ℕ) → 2 * length es ≤ length out
    → Ran form n file division out es (run (division_after n) es division) (answers (division_after n) (division_answer n) es division)

-- Demand 3 of the call: on a divided good sheet, with a file that holds the edits in any order that demand 3 allows, it
-- answers as the edits on the undivided sheet do in their first order, and leaves the divided sheet that they leave.
abbrev pub DemandOfListCall : Type 0
DemandOfListCall = (form : FileForm) (n : Network) → network_refusal n ≡ 0 → (sheet : List ℕ) → length sheet ≡ 8192 → T (good_sheet n (listed n) sheet)
    → (es : List Edit) (ps : List ℕ) → Reordering (names_group n (area_of n)) es ps
    → (file : List ℕ) → Holds form file (along es ps) → (out : List ℕ) → 2 * length (along es ps) ≤ length out
    → Ran form n file (divided n sheet) out (along es ps) (divided n (run (sheet_after n) es sheet)) (along (answers (sheet_after n) (sheet_answer n) es sheet) ps)
