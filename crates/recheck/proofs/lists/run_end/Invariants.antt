-- `recheck::lists::run_end` meets its contract. The loop's invariant: at least `low` findings from i on are of the
-- station of the first, and the list has `high` of them. Assumes nothing.
use Prim.Native.Nat.{◌+◌, ◌*◌, ◌-◌, ◌≤◌}
use lib.ListN.{length}
use Rattle.recheck.specs.between.Kept.{Alike}
use Rattle.recheck.proofs.lists.run_end.Given as goal

abbrev pub invariant-loop-low : goal.invariant-loop-low
invariant-loop-low l = (1 ≤ l.low) × (l.low ≤ l.high) × (l.i + 4 * l.high ≤ length l.list) × Alike l.station l.list l.i (l.i + 4 * l.low)

abbrev pub decreases-loop-low : goal.decreases-loop-low
decreases-loop-low l = l.high - l.low
