-- `sheet::test::sheet_under` meets its contract. The loop's invariant: what is asked of all pages is asked of those
-- from i on. Assumes nothing.
use Prim.Native.Nat.{◌+◌, ◌-◌, ◌≤◌}
use mathlib.Core.Path.{◌≡◌}
use Rattle.sheet.specs.between.Passes.{sheet_passes}
use Rattle.sheet.proofs.PassLaws.{places_from}
use Rattle.sheet.proofs.test.sheet_under.Given as goal

abbrev pub invariant-loop-i : goal.invariant-loop-i
invariant-loop-i l = (l.i ≤ 16) × (l.k ≡ l.i + 1) × (sheet_passes l.network l.extent l.sheet ≡ places_from l.network l.extent l.sheet l.i)

abbrev pub decreases-loop-i : goal.decreases-loop-i
decreases-loop-i l = 16 - l.i
