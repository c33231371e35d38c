-- `fields::put::put_all` meets its contract: the numbers up to the loop's index were put. Assumes nothing.
use native.Mathlib.Omega.{arith}
use Rattle.fields.proofs.NumbersPut.{places_none, numbers_more, numbers_all}
use Rattle.fields.proofs.put.put_all.Goals as goal

pub loop-x-init : goal.loop-x-init
loop-x-init c = places_none c.args.at c.args.out.now

pub loop-x-preserved : goal.loop-x-preserved
loop-x-preserved c =
    let s = c.args in
    let l = c.loop-x in
    let w = c.put_bytes-next in
    let (p, q, r) = numbers_more s.row.now l.x-index s.at c.loop-x-test.true l.next w.result s.out.now l.out w.new.out _ 3 l.invariant w.ensures in
    (p, q, omega arith)

pub returns : goal.returns
returns c = let s = c.args in let l = c.loop-x in numbers_all s.row.now l.x-index s.at c.loop-x-test.false l.next s.out.now l.out _ 39 (omega arith) l.invariant
