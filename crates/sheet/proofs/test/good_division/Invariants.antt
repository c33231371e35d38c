-- `sheet::test::good_division` meets its contract. The loop's invariant: what is asked of all sheets is asked of those
-- from i on. Assumes nothing.
use Prim.Native.Nat.{◌+◌, ◌-◌, ◌≤◌}
use mathlib.Core.Path.{◌≡◌}
use Rattle.sheet.specs.between.Passes.{division_passes}
use Rattle.sheet.proofs.PassLaws.{sheets_from}
use Rattle.sheet.proofs.test.good_division.Given as goal

abbrev pub invariant-loop-i : goal.invariant-loop-i
invariant-loop-i l = (l.i ≤ 6) × (l.a ≡ l.i + 1) × (division_passes l.network l.division ≡ sheets_from l.network l.division l.i)

abbrev pub decreases-loop-i : goal.decreases-loop-i
decreases-loop-i l = 6 - l.i
