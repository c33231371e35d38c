-- `edit_files::list::scan_edits` meets its contract. The loop's invariant: the list is the edits read and then what is
-- left. Assumes nothing.
use Prim.Native.Nat.{◌-◌, ◌≤◌}
use Rattle.fields.proofs.ReadLaws.{SoFar}
use Rattle.edit_files.proofs.EditsParts.{left_at}
use Rattle.edit_files.proofs.list.scan_edits.Given as goal

abbrev pub invariant-loop-i : goal.invariant-loop-i
invariant-loop-i l = (l.i ≤ l.count) × SoFar (left_at l.form l.file l.count l.at) l.i (left_at l.form l.file (l.count - l.i) l.place)
