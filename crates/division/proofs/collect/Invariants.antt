-- `division::collect` meets its contract. The loop's invariant: the first i pages are those of the sheet to be made.
-- Assumes nothing.
use Rattle.std.proofs.Common.{◌*◌, ◌≡◌, length, take}
use Rattle.division.specs.between.Copies.{collected}
use Rattle.division.proofs.collect.Given as goal

abbrev pub invariant-loop-i : goal.invariant-loop-i
invariant-loop-i l = (length l.sheet ≡ 8192) × (take (512 * l.i) l.sheet ≡ take (512 * l.i) (collected l.areas l.division))
