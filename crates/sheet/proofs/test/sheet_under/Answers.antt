-- `sheet::test::sheet_under` meets its contract. The loop's invariant: what is asked of all pages is asked of those
-- from i on. Assumes nothing.
use mathlib.Core.Path.{refl, sym, ◌∙◌}
use native.Mathlib.Omega.{arith}
use borrow.Author.Rules.{rules}
use Rattle.sheet.proofs.PassLaws.{sheet_short, places_start, places_not, places_on, places_end}
use Rattle.sheet.proofs.test.sheet_under.Goals as goal

pub returns-then-sheet-ne8192 : goal.returns-then-sheet-ne8192
returns-then-sheet-ne8192 c =
    let s = c.args in
    sheet_short s.network.now s.extent s.sheet.now c.if-sheet-ne8192.true

pub loop-i-init : goal.loop-i-init
loop-i-init c =
    let s = c.args in
    (omega arith, refl, places_start s.network.now s.extent s.sheet.now c.if-sheet-ne8192.false)

pub overflow_mul-at : goal.overflow_mul-at
overflow_mul-at c = omega arith

pub overflow_add-at : goal.overflow_add-at
overflow_add-at c = omega arith

pub slice_bounds-good_place-count : goal.slice_bounds-good_place-count
slice_bounds-good_place-count c = omega arith

pub slice_bounds-good_place-start : goal.slice_bounds-good_place-start
slice_bounds-good_place-start c = omega arith

pub slice_bounds-good_place-end : goal.slice_bounds-good_place-end
slice_bounds-good_place-end c = omega arith

pub good_place-requires : goal.good_place-requires
good_place-requires c = search rules

pub overflow_add-i : goal.overflow_add-i
overflow_add-i c = omega arith

pub overflow_add-k : goal.overflow_add-k
overflow_add-k c = omega arith

pub loop-i-smaller : goal.loop-i-smaller
loop-i-smaller c = omega arith

pub loop-i-preserved : goal.loop-i-preserved
loop-i-preserved c =
    let l = c.loop-i in
    let s = c.args in
    (omega arith, omega arith, l.invariant.2 ∙ places_on s.network.now s.extent s.sheet.now l.i l.k l.invariant.1 (omega arith) (sym c.good_place.ensures ∙ c.if-good_place.true))

pub returns-else-good_place : goal.returns-else-good_place
returns-else-good_place c =
    let l = c.loop-i in
    let s = c.args in
    sym (l.invariant.2 ∙ places_not s.network.now s.extent s.sheet.now l.i l.k l.invariant.1 (omega arith) (sym c.good_place.ensures ∙ c.if-good_place.false))

pub returns : goal.returns
returns c =
    let l = c.loop-i in
    let s = c.args in
    sym (l.invariant.2 ∙ places_end s.network.now s.extent s.sheet.now l.i (omega arith))
