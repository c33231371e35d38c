-- `sheet::test::good_relations` meets its contract: the tests that led to each return decide. Assumes nothing.
use Prim.Native.Nat.{◌*◌, ◌-◌}
use mathlib.Core.Path.{refl}
use lib.ListN.{length, take, drop}
use Rattle.records.specs.Bytes.{blank}
use Rattle.sheet.proofs.PassLaws.{relations_tests}
use borrow.Author.Rules.{rules}
use Rattle.sheet.proofs.test.good_relations.Goals as goal

pub relation_run-requires : goal.relation_run-requires
relation_run-requires c = search rules

pub overflow_mul-at : goal.overflow_mul-at
overflow_mul-at c = search rules

pub slice_bounds-is_blank-count : goal.slice_bounds-is_blank-count
slice_bounds-is_blank-count c = search rules

pub slice_bounds-is_blank-start : goal.slice_bounds-is_blank-start
slice_bounds-is_blank-start c = search rules

pub slice_bounds-is_blank-end : goal.slice_bounds-is_blank-end
slice_bounds-is_blank-end c = search rules

pub is_blank-requires : goal.is_blank-requires
is_blank-requires c = search rules

pub returns-then-relation_run : goal.returns-then-relation_run
returns-then-relation_run c =
    let s = c.args in
    let r = c.relation_run in
    rw c.if-relation_run.true at (relations_tests s.n s.slots.now r.result c.is_blank.result r.ensures c.is_blank.ensures)

pub returns : goal.returns
returns c =
    let s = c.args in
    let r = c.relation_run in
    let b = s.slots.now in
    rw c.if-relation_run.false at (relations_tests s.n s.slots.now r.result (blank (take (length b - 16 * s.n) (drop (16 * s.n) b))) r.ensures refl)
