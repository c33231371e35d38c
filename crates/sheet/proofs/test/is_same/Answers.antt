-- `sheet::test::is_same` meets its contract. The loop's invariant: the bytes compare as what is left of them. Assumes
-- nothing.
use mathlib.Core.Path.{refl, sym, ◌∙◌}
use native.Mathlib.Omega.{arith}
use Rattle.base.proofs.Lengths.{same_no, same_on, same_end}
use Rattle.sheet.proofs.PassLaws.{same_not}
use Rattle.sheet.proofs.test.is_same.Goals as goal

pub returns-then-a-b : goal.returns-then-a-b
returns-then-a-b c = sym (same_not c.args.a.now c.args.b.now c.if-a-b.true)

pub loop-i-init : goal.loop-i-init
loop-i-init c = (omega arith, refl)

pub bounds-a-i : goal.bounds-a-i
bounds-a-i c = omega arith

pub bounds-b-i : goal.bounds-b-i
bounds-b-i c = omega arith

pub returns-then-a-i : goal.returns-then-a-i
returns-then-a-i c =
    let l = c.loop-i in
    let s = c.args in
    sym (l.invariant.1 ∙ same_no s.a.now s.b.now l.i (omega arith) (omega arith) c.if-a-i.true)

pub overflow_add-i : goal.overflow_add-i
overflow_add-i c = omega arith

pub loop-i-smaller : goal.loop-i-smaller
loop-i-smaller c = omega arith

pub loop-i-preserved : goal.loop-i-preserved
loop-i-preserved c =
    let l = c.loop-i in
    let s = c.args in
    (omega arith, l.invariant.1 ∙ same_on s.a.now s.b.now l.i (omega arith) (omega arith) c.if-a-i.false)

pub returns : goal.returns
returns c =
    let l = c.loop-i in
    let s = c.args in
    sym (l.invariant.1 ∙ same_end s.a.now s.b.now l.i (omega arith) (omega arith))
