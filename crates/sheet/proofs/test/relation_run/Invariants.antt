-- `sheet::test::relation_run` meets its contract. The loop's invariant: what is asked of all records is asked of those
-- from i on, and the relation that is kept is that of the record before i. Assumes nothing.
use Prim.Native.Nat.{◌≤◌, ◌-◌}
use mathlib.Core.Path.{◌≡◌}
use Rattle.records.specs.Bytes.{chunk}
use Rattle.records.specs.Records.{decode_relation}
use Rattle.sheet.specs.between.Passes.{relation_passes, relation_after, relation_run}
use Rattle.sheet.proofs.PassLaws.{all_from}
use Rattle.sheet.proofs.test.relation_run.Given as goal

abbrev pub invariant-loop-i : goal.invariant-loop-i
invariant-loop-i l =
    (l.i ≤ l.n) × (¬ (l.i ≡ 0) → l.last ≡ decode_relation (chunk (l.i - 1) l.slots))
    × (relation_run l.n l.slots ≡ all_from (λ j. relation_passes (chunk j l.slots)) (relation_after l.slots) l.n l.i)

abbrev pub decreases-loop-i : goal.decreases-loop-i
decreases-loop-i l = l.n - l.i
