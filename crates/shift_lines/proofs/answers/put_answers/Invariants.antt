-- `shift_lines::answers::put_answers` meets its contract: what all edits and answers would print and count is what
-- those from i on still do. Assumes nothing.
use Prim.Native.Nat.{◌+◌, ◌-◌, ◌*◌, ◌≤◌}
use mathlib.Core.Path.{◌≡◌}
use mathlib.Core.Bool.{true}
use lib.ListN.{length}
use Rattle.timetable.specs.FileForms.{newest_form}
use Rattle.timetable.specs.Count.{zero_tally, raise_all}
use Rattle.builder.proofs.FindingsPut.{Left}
use Rattle.edit_calls.specs.between.Taken.{edits_at, can_be_read}
use Rattle.shift_lines.specs.between.Listing.{answers_from, answers_text}
use Rattle.shift_lines.proofs.answers.put_answers.Given as goal

abbrev pub invariant-loop-i : goal.invariant-loop-i
invariant-loop-i l =
    (l.at ≤ 68 * l.i)
    × (length l.out ≡ length l.initial.out)
    × (can_be_read newest_form (l.count - l.i) l.file l.cursor.at ≡ true)
    × Left 0 (answers_text 1 (answers_from l.count l.answers 0)) l.initial.out l.at (answers_text (l.i + 1) (answers_from (l.count - l.i) l.answers l.i)) l.out
    × (raise_all zero_tally (edits_at newest_form l.count l.file l.first) (answers_from l.count l.answers 0)
    ≡ raise_all l.tally (edits_at newest_form (l.count - l.i) l.file l.cursor.at) (answers_from (l.count - l.i) l.answers l.i))
