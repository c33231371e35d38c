-- `records::bytes::is_blank` meets its contract. The loop's invariant: all bytes are zero if those so far are, and
-- those from its place on. Assumes nothing.
use Rattle.std.proofs.Common.{◌≡◌, ◌&&◌, ◌≤◌, eqb, length, drop}
use Rattle.base.specs.Lists.{every}
use Rattle.records.proofs.bytes.is_blank.Given as goal

abbrev pub invariant-loop-x : goal.invariant-loop-x
invariant-loop-x l = (l.x-index ≤ length l.b) × (every (eqb 0) l.b ≡ (l.clean && every (eqb 0) (drop l.x-index l.b)))
