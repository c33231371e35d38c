-- `text::rows::put_each` meets its contract: what all rows would write is what those from i on still write, from the
-- place reached. Assumes nothing.
use Prim.Native.Nat.{◌+◌, ◌*◌, ◌≤◌}
use mathlib.Core.Path.{◌≡◌}
use lib.ListN.{length, take, drop}
use Rattle.timetable.specs.Outputs.{put}
use Rattle.text.specs.between.Rows.{rows_text}
use Rattle.text.proofs.rows.put_each.Given as goal

abbrev pub invariant-loop-i : goal.invariant-loop-i
invariant-loop-i l =
    (l.next ≤ l.at + 72 * l.i)
    × (length l.out ≡ length l.initial.out)
    × (l.at + length (rows_text l.s.0 l.t.0 (take (4 * l.count) l.rows)) ≡ l.next + length (rows_text l.s.0 l.t.0 (drop (4 * l.i) (take (4 * l.count) l.rows))))
    × (put l.at (rows_text l.s.0 l.t.0 (take (4 * l.count) l.rows)) l.initial.out ≡ put l.next (rows_text l.s.0 l.t.0 (drop (4 * l.i) (take (4 * l.count) l.rows))) l.out)
