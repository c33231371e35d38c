-- `sheet::test::own_train` meets its contract: the tests that led to each return decide. Assumes nothing.
use mathlib.Core.Path.{refl}
use Rattle.railway.specs.Ranges.{train_ok}
use Rattle.sheet.proofs.PassLaws.{train_tests}
use borrow.Author.Rules.{rules}
use Rattle.sheet.proofs.test.own_train.Goals as goal

pub train_in-t-requires : goal.train_in-t-requires
train_in-t-requires c = search rules

pub visit_record-own-requires : goal.visit_record-own-requires
visit_record-own-requires c = search rules

pub slice_bounds-is_same-end : goal.slice_bounds-is_same-end
slice_bounds-is_same-end c = search rules

pub is_same-requires : goal.is_same-requires
is_same-requires c = search rules

pub valid-requires : goal.valid-requires
valid-requires c = search rules

pub returns-then-fits : goal.returns-then-fits
returns-then-fits c =
    let s = c.args in
    let e = c.is_same in
    let w = c.visit_record-own in
    let t = c.train_in-t in
    rw c.if-fits.true
    (rw (c.if-is_same.true, c.if-valid.true, c.if-fits.true) at
    (train_tests s.r.now w.result t.result s.v t.ensures c.requires w.ensures e.result c.valid.result s.fits e.ensures c.valid.ensures))

pub returns-else-fits : goal.returns-else-fits
returns-else-fits c =
    let s = c.args in
    let e = c.is_same in
    let w = c.visit_record-own in
    let t = c.train_in-t in
    rw c.if-fits.false
    (rw (c.if-is_same.true, c.if-valid.true, c.if-fits.false) at
    (train_tests s.r.now w.result t.result s.v t.ensures c.requires w.ensures e.result c.valid.result s.fits e.ensures c.valid.ensures))

pub returns-else-valid : goal.returns-else-valid
returns-else-valid c =
    let s = c.args in
    let e = c.is_same in
    let w = c.visit_record-own in
    let t = c.train_in-t in
    rw (c.if-is_same.true, c.if-valid.false) at
    (train_tests s.r.now w.result t.result s.v t.ensures c.requires w.ensures e.result c.valid.result s.fits e.ensures c.valid.ensures)

pub returns-else-is_same : goal.returns-else-is_same
returns-else-is_same c =
    let s = c.args in
    let e = c.is_same in
    let w = c.visit_record-own in
    let t = c.train_in-t in
    rw c.if-is_same.false at
    (train_tests s.r.now w.result t.result s.v t.ensures c.requires w.ensures e.result (train_ok t.result) s.fits e.ensures refl)
