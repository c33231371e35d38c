-- `division::fill_all` meets its contract. The loop's invariant: the sheets of the first a areas are those of the
-- division to be made. Assumes nothing.
use Rattle.std.proofs.Common.{◌*◌, ◌≡◌, length, take}
use Rattle.division.specs.between.Copies.{spread_all}
use Rattle.division.proofs.fill_all.Given as goal

abbrev pub invariant-loop-a : goal.invariant-loop-a
invariant-loop-a l = (length l.division ≡ 49152) × (take (8192 * l.a) l.division ≡ take (8192 * l.a) (spread_all l.areas l.sheet))
