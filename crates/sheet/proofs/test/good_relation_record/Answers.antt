-- `sheet::test::good_relation_record` meets its contract: the tests that led to each return decide. Assumes nothing.
use mathlib.Core.Path.{refl}
use Rattle.railway.specs.Relations.{relation_ok}
use Rattle.sheet.proofs.PassLaws.{relation_record_tests}
use borrow.Author.Rules.{rules}
use Rattle.sheet.proofs.test.good_relation_record.Goals as goal

pub relation_record-own-requires : goal.relation_record-own-requires
relation_record-own-requires c = search rules

pub slice_bounds-is_same-end : goal.slice_bounds-is_same-end
slice_bounds-is_same-end c = search rules

pub is_same-requires : goal.is_same-requires
is_same-requires c = search rules

pub valid-requires : goal.valid-requires
valid-requires c = search rules

pub returns-then-is_same : goal.returns-then-is_same
returns-then-is_same c =
    let s = c.args in
    let e = c.is_same in
    let w = c.relation_record-own in
    rw c.if-is_same.true at (relation_record_tests s.r.now w.result s.q c.requires w.ensures e.result c.valid.result e.ensures c.valid.ensures)

pub returns : goal.returns
returns c =
    let s = c.args in
    let e = c.is_same in
    let w = c.relation_record-own in
    rw c.if-is_same.false at (relation_record_tests s.r.now w.result s.q c.requires w.ensures e.result (relation_ok s.q) e.ensures refl)
