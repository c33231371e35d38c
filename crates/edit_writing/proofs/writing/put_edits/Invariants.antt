-- `edit_writing::writing::put_edits` meets its contract. The loop's invariant: the list is the edits read and then what
-- is left, and those read are put. Assumes nothing.
use Prim.Native.Nat.{◌+◌, ◌-◌, ◌*◌, ◌≤◌}
use mathlib.Core.Path.{◌≡◌}
use lib.ListN.{length}
use Rattle.timetable.specs.FileForms.{newest_form}
use Rattle.timetable.specs.Outputs.{put}
use Rattle.fields.proofs.ReadLaws.{SoFar}
use Rattle.edit_files.proofs.EditsParts.{left_at}
use Rattle.edit_writing.proofs.WritingLaws.{list_bytes}
use Rattle.edit_writing.proofs.writing.put_edits.Given as goal

abbrev pub invariant-loop-i : goal.invariant-loop-i
invariant-loop-i l =
    (l.i ≤ l.fn.list.count) × (l.next ≤ l.at + 39 * l.i) × (length l.out ≡ length l.initial.out)
    × ((s : SoFar (left_at newest_form l.file l.fn.list.count l.fn.list.first) l.i (left_at newest_form l.file (l.fn.list.count - l.i) l.place)) × (l.next ≡ l.at + length (list_bytes s.elements)) × (l.out ≡ put l.at (list_bytes s.elements) l.initial.out))
