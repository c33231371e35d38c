-- `recheck::lists::kept_length` meets its contract. The loop's invariant: what stays of the list is what was counted
-- and what stays from i on. Assumes nothing.
use Prim.Native.Nat.{◌+◌, ◌-◌, ◌%◌, ◌≤◌}
use mathlib.Core.Path.{◌≡◌}
use lib.ListN.{length, drop}
use Rattle.recheck.specs.between.Kept.{kept_numbers}
use Rattle.recheck.proofs.lists.kept_length.Given as goal

abbrev pub invariant-loop-i : goal.invariant-loop-i
invariant-loop-i l = (l.i ≤ l.k) × (l.kept ≤ l.i) × (length (kept_numbers l.marks l.list) ≡ l.kept + length (kept_numbers l.marks (drop l.i l.list))) × (l.i % 4 ≡ 0)

abbrev pub decreases-loop-i : goal.decreases-loop-i
decreases-loop-i l = l.k - l.i
