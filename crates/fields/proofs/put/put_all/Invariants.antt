-- `fields::put::put_all` meets its contract: the numbers up to the loop's index were put. Assumes nothing.
use Prim.Native.Nat.{◌*◌}
use lib.ListN.{take}
use Rattle.fields.specs.between.Putting.{Places}
use Rattle.fields.proofs.put.put_all.Given as goal

abbrev pub invariant-loop-x : goal.invariant-loop-x
invariant-loop-x l = Places l.at (take l.x-index l.row) l.initial.out l.next l.out (3 * l.x-index)
