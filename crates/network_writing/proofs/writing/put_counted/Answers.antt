-- `network_writing::writing::put_counted` meets its contract: the count and the rows up to the loop's index were put,
-- one behind the other. Assumes nothing.
use mathlib.Core.List.{[], ◌∷◌, flat_map}
use native.Mathlib.Omega.{arith}
use lib.ListN.{take}
use Rattle.fields.proofs.NumbersPut.{near, places_two}
use Rattle.network_writing.proofs.WritingLaws.{rows_more}
use Rattle.network_writing.proofs.writing.put_counted.Goals as goal

pub loop-row-init : goal.loop-row-init
unfolding flat_map
loop-row-init g c = rw c.from.ensures at (near c.args.at (c.from.result ∷ []) c.args.out.now c.put_number-next.result c.put_number-next.new.out 3 (omega arith) c.put_number-next.ensures)

pub loop-row-preserved : goal.loop-row-preserved
loop-row-preserved g c =
    let s = c.args in
    let l = c.loop-row in
    let x = c.row-item in
    let w = c.put-next in
    let f = g.R.Written.numbers in
    let (p, q, r) = places_two s.at l.next w.result (s.count ∷ flat_map f (take l.row-index s.rows.now)) (f x.result) s.out.now l.out w.new.out _ 39 l.invariant w.ensures in
    rw (rows_more f s.rows.now l.row-index x.result c.loop-row-test.true x.is) (p, q, omega arith)
