-- `text::found::put_each` meets its contract: what all findings would write is what those from i on still write, from
-- the place reached. Assumes nothing.
use Prim.Native.Nat.{◌+◌, ◌*◌, ◌≤◌}
use mathlib.Core.Path.{◌≡◌}
use lib.ListN.{length, take, drop}
use Rattle.timetable.specs.Outputs.{put}
use Rattle.text.specs.between.Lines.{of_areas, findings_text}
use Rattle.text.proofs.found.put_each.Given as goal

abbrev pub invariant-loop-i : goal.invariant-loop-i
invariant-loop-i l =
    (l.next ≤ l.at + 68 * l.i)
    × (length l.out ≡ length l.initial.out)
    × (l.at + length (findings_text l.h.letter (of_areas l.h.one l.h.other) (take (4 * l.count) l.numbers)) ≡ l.next + length (findings_text l.h.letter (of_areas l.h.one l.h.other) (drop (4 * l.i) (take (4 * l.count) l.numbers))))
    × (put l.at (findings_text l.h.letter (of_areas l.h.one l.h.other) (take (4 * l.count) l.numbers)) l.initial.out ≡ put l.next (findings_text l.h.letter (of_areas l.h.one l.h.other) (drop (4 * l.i) (take (4 * l.count) l.numbers))) l.out)
