-- `recheck::marks::levels_of` meets its contract. The loop's invariant: the first i levels are those of the first i
-- stations. Assumes nothing.
use Rattle.std.proofs.Common.{◌≡◌, map, take, length}
use Rattle.sheet.specs.Sheets.{sixteen}
use Rattle.recheck.specs.between.Marks.{level_at}
use Rattle.recheck.proofs.marks.levels_of.Given as goal

abbrev pub invariant-loop-i : goal.invariant-loop-i
invariant-loop-i l = (length l.levels ≡ 16) × (take l.i l.levels ≡ take l.i (map (level_at l.n l.home l.away) sixteen))
