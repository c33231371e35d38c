-- `recheck::weaving::weave` meets its contract. The loop's invariant: what is written and what is still to be woven
-- make up the goal, and the rest is as it was (`Weaves`); each turn is one of its laws. Assumes nothing.
use Prim.Native.Nat.{◌+◌, ◌-◌, ◌%◌, ◌≤◌}
use mathlib.Core.Path.{◌≡◌}
use lib.ListN.{length, drop}
use Rattle.recheck.specs.between.Kept.{part, list_with}
use Rattle.recheck.proofs.WeaveLaws.{Weaves}
use Rattle.recheck.proofs.weaving.weave.Given as goal

abbrev pub invariant-loop-i : goal.invariant-loop-i
invariant-loop-i l =
    (l.i ≤ l.k) × (length l.out ≡ length l.initial.out) × Weaves l.marks l.list (list_with l.marks l.list (part l.kept l.end l.initial.out)) (drop l.end l.initial.out) l.end l.i l.to l.from l.out × (l.i % 4 ≡ 0)

abbrev pub decreases-loop-i : goal.decreases-loop-i
decreases-loop-i l = (l.k - l.i) + (l.end - l.from)
