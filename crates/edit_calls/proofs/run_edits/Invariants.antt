-- `edit_calls::run_edits` meets its contract: a run of all edits from the start is a run of those from i on, on what
-- the first i left; and so are the answers. Assumes nothing.
use Prim.Native.Nat.{◌-◌, ◌*◌, ◌≤◌}
use mathlib.Core.Path.{◌≡◌}
use mathlib.Core.Bool.{true}
use lib.ListN.{length}
use Rattle.timetable.specs.Outputs.{put}
use Rattle.edit_calls.specs.Lists.{known_good, answers_of, division_of}
use Rattle.edit_calls.specs.between.Taken.{edits_at, can_be_read}
use Rattle.edit_calls.proofs.run_edits.Given as goal

abbrev pub invariant-loop-i : goal.invariant-loop-i
invariant-loop-i l =
    (l.i ≤ l.count)
    × (length l.division ≡ length l.initial.division)
    × (length l.out ≡ length l.initial.out)
    × (can_be_read l.form (l.count - l.i) l.file l.cursor.at ≡ true)
    × (division_of l.n (edits_at l.form (l.count - l.i) l.file l.cursor.at) l.division ≡ division_of l.n (edits_at l.form l.count l.file l.at) l.initial.division)
    × (put (2 * l.i) (answers_of l.n (edits_at l.form (l.count - l.i) l.file l.cursor.at) l.division) l.out ≡ put 0 (answers_of l.n (edits_at l.form l.count l.file l.at) l.initial.division) l.initial.out)
    × (l.tested ≡ true → known_good l.n l.division ≡ true)
