-- The edits that stand in a file from a place on, as the loop takes them: one by one, where all of them can be read.
-- Assumes nothing.
use Rattle.std.specs.Prelude.{ℕ, ◌*◌, ◌≤◌, ◌≡◌, Bool, true, false, List, [], length}
use Rattle.timetable.specs.declared.FileForm.{FileForm}
use Rattle.timetable.specs.Formats.{Outcome, accepted, refused, read}
use Rattle.timetable.specs.EditsFile.{edits_on}
use Rattle.edit_calls.specs.Types.{Edit}

unfoldable pub is_accepted : {A : Type 0} → Outcome A → Bool
is_accepted (accepted a next) = true
is_accepted (refused k p) = false

unfoldable pub taken : Outcome (List Edit) → List Edit
taken (accepted es next) = es
taken (refused k p) = []

-- k edits from the place on
unfoldable pub edits_at : FileForm → ℕ → List ℕ → ℕ → List Edit
edits_at form k file at = taken (read (edits_on form k) file at)

unfoldable pub can_be_read : FileForm → ℕ → List ℕ → ℕ → Bool
can_be_read form k file at = is_accepted (read (edits_on form k) file at)

-- the loop may run: so many edits can be read, and there is room for their answers
abbrev pub CanRun : FileForm → ℕ → List ℕ → ℕ → List ℕ → Type 0
CanRun form k file at out = (2 * k ≤ length out) × (k ≤ 1000) × (can_be_read form k file at ≡ true)

-- The key ring of this module: `unfolding opened` opens every definition above.
unfoldable pub opened : Unit {0}
unfolding is_accepted taken edits_at can_be_read
opened = tt
