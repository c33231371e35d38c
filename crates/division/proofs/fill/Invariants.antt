-- `division::fill` meets its contract. The loop's invariant: the first i pages are those of the sheet to be made.
-- Assumes nothing.
use Rattle.std.proofs.Common.{◌*◌, ◌≡◌, length, take}
use Rattle.division.specs.between.Copies.{spread}
use Rattle.division.proofs.fill.Given as goal

abbrev pub invariant-loop-i : goal.invariant-loop-i
invariant-loop-i l = (length l.part ≡ 8192) × (take (512 * l.i) l.part ≡ take (512 * l.i) (spread l.areas l.sheet l.a))
