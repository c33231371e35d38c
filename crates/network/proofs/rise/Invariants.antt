-- The rows rise if those that are left do, from the last number seen on.
use Rattle.std.proofs.Common.{◌≡◌, ◌≤◌, length, drop}
use Rattle.network.proofs.RowsInUse.{chained}
use Rattle.network.proofs.rise.Given as goal

abbrev pub invariant-loop-row : goal.invariant-loop-row
invariant-loop-row g l =
    let r = g.R.Row in
    (l.row-index ≤ length l.rows) × (chained r.in_range r.number_of 0 l.rows ≡ chained r.in_range r.number_of l.last (drop l.row-index l.rows))
