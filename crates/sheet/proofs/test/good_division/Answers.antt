-- `sheet::test::good_division` meets its contract. The loop's invariant: what is asked of all sheets is asked of those
-- from i on. Assumes nothing.
use mathlib.Core.Path.{refl, sym, ◌∙◌}
use native.Mathlib.Omega.{arith}
use borrow.Author.Rules.{rules}
use borrow.Author.Tests.{eqb-true}
use Rattle.sheet.proofs.PassLaws.{division_short, sheets_start, sheets_not, sheets_on, sheets_end}
use Rattle.sheet.proofs.test.good_division.Goals as goal

pub returns-then-division-ne49152 : goal.returns-then-division-ne49152
returns-then-division-ne49152 c =
    let s = c.args in
    division_short s.network.now s.division.now c.if-division-ne49152.true

pub loop-i-init : goal.loop-i-init
loop-i-init c =
    let s = c.args in
    (omega arith, refl, sheets_start s.network.now s.division.now c.if-division-ne49152.false)

pub overflow_mul-at : goal.overflow_mul-at
overflow_mul-at c = omega arith

pub overflow_add-at : goal.overflow_add-at
overflow_add-at c = omega arith

pub slice_bounds-sheet_under-count : goal.slice_bounds-sheet_under-count
slice_bounds-sheet_under-count c = omega arith

pub slice_bounds-sheet_under-start : goal.slice_bounds-sheet_under-start
slice_bounds-sheet_under-start c = omega arith

pub slice_bounds-sheet_under-end : goal.slice_bounds-sheet_under-end
slice_bounds-sheet_under-end c = omega arith

pub overflow_add-i : goal.overflow_add-i
overflow_add-i c = omega arith

pub overflow_add-a : goal.overflow_add-a
overflow_add-a c = omega arith

pub loop-i-smaller : goal.loop-i-smaller
loop-i-smaller c = omega arith

pub loop-i-preserved : goal.loop-i-preserved
loop-i-preserved c =
    let l = c.loop-i in
    let s = c.args in
    (omega arith, omega arith, l.invariant.2 ∙ sheets_on s.network.now s.division.now c.if-division-ne49152.false l.i l.a l.invariant.1 (omega arith) (sym c.sheet_under.ensures ∙ c.if-sheet_under.true))

pub returns-else-sheet_under : goal.returns-else-sheet_under
returns-else-sheet_under c =
    let l = c.loop-i in
    let s = c.args in
    sym (l.invariant.2 ∙ sheets_not s.network.now s.division.now c.if-division-ne49152.false l.i l.a l.invariant.1 (omega arith) (sym c.sheet_under.ensures ∙ c.if-sheet_under.false))

pub returns : goal.returns
returns c =
    let l = c.loop-i in
    let s = c.args in
    sym (l.invariant.2 ∙ sheets_end s.network.now s.division.now l.i (omega arith))
