-- `network_writing::writing::put_counted` meets its contract: the count and the rows up to the loop's index were put,
-- one behind the other. Assumes nothing.
use Prim.Native.Nat.{◌+◌, ◌*◌}
use mathlib.Core.List.{◌∷◌, flat_map}
use lib.ListN.{take}
use Rattle.fields.specs.between.Putting.{Places}
use Rattle.network_writing.proofs.writing.put_counted.Given as goal

abbrev pub invariant-loop-row : goal.invariant-loop-row
invariant-loop-row g l = Places l.at (l.count ∷ flat_map g.R.Written.numbers (take l.row-index l.rows)) l.fn.out l.next l.out (3 + 39 * l.row-index)
