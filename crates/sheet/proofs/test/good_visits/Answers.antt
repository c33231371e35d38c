-- `sheet::test::good_visits` meets its contract: the tests that led to each return decide. Assumes nothing.
use Prim.Native.Nat.{◌*◌, ◌-◌}
use mathlib.Core.Path.{refl}
use lib.ListN.{length, take, drop}
use Rattle.records.specs.Bytes.{blank}
use Rattle.sheet.proofs.PassLaws.{visits_tests}
use borrow.Author.Rules.{rules}
use Rattle.sheet.proofs.test.good_visits.Goals as goal

pub visit_run-requires : goal.visit_run-requires
visit_run-requires c = search rules

pub overflow_mul-at : goal.overflow_mul-at
overflow_mul-at c = search rules

pub slice_bounds-is_blank-count : goal.slice_bounds-is_blank-count
slice_bounds-is_blank-count c = search rules

pub slice_bounds-is_blank-start : goal.slice_bounds-is_blank-start
slice_bounds-is_blank-start c = search rules

pub slice_bounds-is_blank-end : goal.slice_bounds-is_blank-end
slice_bounds-is_blank-end c = search rules

pub is_blank-requires : goal.is_blank-requires
is_blank-requires c = search rules

pub returns-then-visit_run : goal.returns-then-visit_run
returns-then-visit_run c =
    let s = c.args in
    let r = c.visit_run in
    rw c.if-visit_run.true at (visits_tests s.network.now s.s s.n s.slots.now r.result c.is_blank.result r.ensures c.is_blank.ensures)

pub returns : goal.returns
returns c =
    let s = c.args in
    let r = c.visit_run in
    let b = s.slots.now in
    rw c.if-visit_run.false at (visits_tests s.network.now s.s s.n s.slots.now r.result (blank (take (length b - 16 * s.n) (drop (16 * s.n) b))) r.ensures refl)
