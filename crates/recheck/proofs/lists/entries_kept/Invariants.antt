-- `recheck::lists::entries_kept` meets its contract. The loop's invariant: what stays from the start on is what was
-- counted and what stays from the next finding on. Assumes nothing.
use Rattle.std.proofs.Common.{◌+◌, ◌*◌}
use Rattle.recheck.specs.between.Kept.{Stay}
use Rattle.recheck.proofs.lists.entries_kept.Given as goal

abbrev pub invariant-loop-i : goal.invariant-loop-i
invariant-loop-i l = Stay l.marks l.list l.start (l.start + 4 * l.i) l.kept
