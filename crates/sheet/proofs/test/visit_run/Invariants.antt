-- `sheet::test::visit_run` meets its contract. The loop's invariant: what is asked of all records is asked of those
-- from i on, and the train that is kept is that of the record before i. Assumes nothing.
use Prim.Native.Nat.{◌≤◌, ◌-◌}
use mathlib.Core.Path.{◌≡◌}
use Rattle.records.specs.Bytes.{chunk}
use Rattle.sheet.specs.between.Passes.{visit_passes, train_after, visit_run}
use Rattle.sheet.proofs.PassLaws.{all_from, train_before}
use Rattle.sheet.proofs.test.visit_run.Given as goal

abbrev pub invariant-loop-i : goal.invariant-loop-i
invariant-loop-i l =
    (l.i ≤ l.n) × (l.last ≡ train_before l.slots l.i)
    × (visit_run l.network l.s l.n l.slots ≡ all_from (λ j. visit_passes l.network l.s (chunk j l.slots)) (train_after l.slots) l.n l.i)

abbrev pub decreases-loop-i : goal.decreases-loop-i
decreases-loop-i l = l.n - l.i
