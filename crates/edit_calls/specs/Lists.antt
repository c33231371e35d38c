-- A list of edits run on a division: the edits of a file, one after another, each by the call for a single edit on what
-- the one before left. Document 01, "Imposter sheets": not "one that runs the first edit and merely answers the
-- others". Assumes nothing.
use Rattle.std.specs.Prelude.{ℕ, ◌≡◌, Bool, true, ◌&&◌, leb, eqb, length}
use mathlib.Core.List.{List, [], ◌∷◌, flat_map}
use Rattle.std.specs.Prelude.{if◌then◌else◌}
use Rattle.base.specs.Runs.{run, answers}
use Rattle.network.specs.Networks.{network_refusal}
use Rattle.timetable.specs.declared.FileForm.{FileForm}
use Rattle.timetable.specs.Formats.{Outcome, accepted, refused, Placed}
use Rattle.timetable.specs.EditsFile.{read_edits_as}
use Rattle.timetable.specs.Outputs.{Reply, written, refused_at, needed, output, output_after, put}
use Rattle.sheet.specs.between.Passes.{division_passes}
use Rattle.machine.specs.Calls.{division_answer, division_after}
use Rattle.std.specs.Prelude.{Result, Ok, Err}
use Rattle.base.specs.RefusalNumbers.{number_of}
use Rattle.edit_calls.specs.Types.{Edit, Network, Answer, RunError}

-- "An answer is a refusal number or 0, and the count of visits removed": two numbers an edit
unfoldable pub answer_numbers : Answer → List ℕ
answer_numbers a = a.refusal ∷ a.removed ∷ []

-- the answers of the single calls, one behind the other, and the division that they leave
unfoldable pub answers_of : Network → List Edit → List ℕ → List ℕ
answers_of n es division = flat_map answer_numbers (answers (division_after n) (division_answer n) es division)

unfoldable pub division_of : Network → List Edit → List ℕ → List ℕ
division_of n es division = run (division_after n) es division

-- a call for one edit, as its contract says it: what it answers and leaves
abbrev pub Edits : Network → Edit → List ℕ → Answer → List ℕ → Type 0
Edits n e division a left = (a ≡ division_answer n e division) × (left ≡ division_after n e division)

-- the network and all six sheets are good, so that no sheet need be tested again
unfoldable pub known_good : Network → List ℕ → Bool
known_good n division = eqb (network_refusal n) 0 && division_passes n division

-- the same of a division that may be known to be good, and stays so
abbrev pub EditsKnown : Network → Edit → Bool → List ℕ → Answer → List ℕ → Type 0
EditsKnown n e tested division a left =
    (a ≡ division_answer n e division) × (left ≡ division_after n e division) × (tested ≡ true → known_good n left ≡ true)

-- a list of edits run on a division, with room for the answers
abbrev pub Runs : Network → List Edit → List ℕ → List ℕ → List ℕ → List ℕ → Type 0
Runs n es division out left written = (left ≡ division_of n es division) × (written ≡ put 0 (answers_of n es division) out)

-- "When an answer is an enum, a definition gives this paper's number and values for each case of that enum."
unfoldable pub reply : Result ℕ RunError → Reply
reply (Ok k) = written k
reply (Err (RunError.Refused e)) = refused_at (number_of e.refusal) e.place
reply (Err (RunError.TooShort k)) = needed k

-- 5; then the file's refusal with its place; then 13
module _ (n : Network) (division out : List ℕ) where
  unfoldable pub told_run : Outcome (Placed (List Edit)) → Reply
  told_run (accepted x next) = output 0 (answers_of n x.entry division) out
  told_run (refused k p) = refused_at k p

  unfoldable pub division_left : Outcome (Placed (List Edit)) → List ℕ
  division_left (accepted x next) = if leb (length (answers_of n x.entry division)) (length out) then division_of n x.entry division else division
  division_left (refused k p) = division

  unfoldable pub answers_left : Outcome (Placed (List Edit)) → List ℕ
  answers_left (accepted x next) = output_after 0 (answers_of n x.entry division) out
  answers_left (refused k p) = out

-- the call, of a file in a form
module _ (form : FileForm) (n : Network) (file division out : List ℕ) where
  unfoldable pub run_answer : Reply
  run_answer = if eqb (length division) 49152 then told_run n division out (read_edits_as form file) else refused_at 5 0

  unfoldable pub run_division : List ℕ
  run_division = if eqb (length division) 49152 then division_left n division out (read_edits_as form file) else division

  unfoldable pub run_answers : List ℕ
  run_answers = if eqb (length division) 49152 then answers_left n division out (read_edits_as form file) else out

  -- as its contract says it
  abbrev pub RunsFile : Result ℕ RunError → List ℕ → List ℕ → Type 0
  RunsFile r left written = (reply r ≡ run_answer) × (left ≡ run_division) × (written ≡ run_answers)

-- The key ring of this module: `unfolding opened` opens every definition above.
unfoldable pub opened : Unit {0}
unfolding answer_numbers answers_of division_of known_good reply told_run division_left answers_left run_answer run_division run_answers
opened = tt
