-- `findings::joint::join` meets its contract. The loop's invariant: the first i pages are those of the sheet to be
-- made. Assumes nothing.
use Rattle.std.proofs.Common.{◌*◌, ◌≡◌, take}
use Rattle.findings.specs.between.Joined.{joined}
use Rattle.findings.proofs.joint.join.Given as goal

abbrev pub invariant-loop-i : goal.invariant-loop-i
invariant-loop-i l = take (512 * l.i) l.sheet ≡ take (512 * l.i) (joined l.n l.a l.b l.first l.second)
