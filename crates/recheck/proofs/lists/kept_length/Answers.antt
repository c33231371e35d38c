-- `recheck::lists::kept_length` meets its contract. The loop's invariant: what stays of the list is what was counted
-- and what stays from i on. Assumes nothing.
use mathlib.Core.Path.{refl}
use native.Mathlib.Omega.{arith}
use Rattle.recheck.proofs.FourLaws.{none_over}
use Rattle.recheck.proofs.lists.kept_length.Goals as goal

pub loop-i-init : goal.loop-i-init
loop-i-init c = (omega arith, omega arith, omega arith, refl)

pub run_end-end-requires : goal.run_end-end-requires
run_end-end-requires c = (omega arith, c.loop-i.invariant.3, c.requires)

pub run_kept-run-requires : goal.run_kept-run-requires
run_kept-run-requires c = c.run_end-end.ensures

pub overflow_add-kept : goal.overflow_add-kept
overflow_add-kept c = omega (arith, c.run_end-end.ensures.0, c.run_end-end.ensures.1, c.run_kept-run.ensures.0)

pub loop-i-smaller : goal.loop-i-smaller
loop-i-smaller c = omega (arith, c.run_end-end.ensures.0, c.run_end-end.ensures.1)

pub loop-i-preserved : goal.loop-i-preserved
loop-i-preserved c =
    let run = c.run_end-end.ensures in
    let stay = c.run_kept-run.ensures in
    let inv = c.loop-i.invariant in
    (run.1, omega (arith, run.0, stay.0), omega (arith, inv.2, stay.1), omega (arith, run.0, run.2, inv.3))

pub returns : goal.returns
returns c =
    let s = c.args in
    omega (arith, none_over s.marks c.loop-i.i s.list.now (omega arith))
