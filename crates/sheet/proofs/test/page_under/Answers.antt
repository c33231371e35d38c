-- `sheet::test::page_under` meets its contract: the tests that led to each return decide. Assumes nothing.
use mathlib.Core.Path.{refl}
use lib.ListN.{take, drop}
use Rattle.sheet.specs.between.Passes.{visits_pass, relations_pass}
use Rattle.sheet.proofs.PassLaws.{page_short, page_many, page_related, page_tests}
use borrow.Author.Rules.{rules}
use Rattle.sheet.proofs.test.page_under.Goals as goal

pub returns-then-page-ne512 : goal.returns-then-page-ne512
returns-then-page-ne512 c =
    let s = c.args in
    page_short s.network.now s.s s.page.now c.if-page-ne512.true

pub bounds-page-0 : goal.bounds-page-0
bounds-page-0 c = search rules

pub size-n-requires : goal.size-n-requires
size-n-requires c = search rules

pub bounds-page-1 : goal.bounds-page-1
bounds-page-1 c = search rules

pub size-m-requires : goal.size-m-requires
size-m-requires c = search rules

pub returns-then-n-gt24 : goal.returns-then-n-gt24
returns-then-n-gt24 c =
    let s = c.args in
    let page = s.page.now in
    let n = c.size-n in
    let m = c.size-m in
    let size = c.if-page-ne512.false in
    page_many s.network.now s.s page size n.result m.result n.ensures.0 m.ensures.0 c.if-n-gt24.true

pub returns-then-m-gt6 : goal.returns-then-m-gt6
returns-then-m-gt6 c =
    let s = c.args in
    let page = s.page.now in
    let n = c.size-n in
    let m = c.size-m in
    let size = c.if-page-ne512.false in
    page_related s.network.now s.s page size n.result m.result n.ensures.0 m.ensures.0 c.if-n-gt24.false c.if-m-gt6.true

pub slice_bounds-is_blank-count : goal.slice_bounds-is_blank-count
slice_bounds-is_blank-count c = search rules

pub slice_bounds-is_blank-start : goal.slice_bounds-is_blank-start
slice_bounds-is_blank-start c = search rules

pub slice_bounds-is_blank-end : goal.slice_bounds-is_blank-end
slice_bounds-is_blank-end c = search rules

pub is_blank-requires : goal.is_blank-requires
is_blank-requires c = search rules

pub slice_bounds-good_visits-count : goal.slice_bounds-good_visits-count
slice_bounds-good_visits-count c = search rules

pub slice_bounds-good_visits-start : goal.slice_bounds-good_visits-start
slice_bounds-good_visits-start c = search rules

pub slice_bounds-good_visits-end : goal.slice_bounds-good_visits-end
slice_bounds-good_visits-end c = search rules

pub good_visits-requires : goal.good_visits-requires
good_visits-requires c = search rules

pub slice_bounds-good_relations-count : goal.slice_bounds-good_relations-count
slice_bounds-good_relations-count c = search rules

pub slice_bounds-good_relations-start : goal.slice_bounds-good_relations-start
slice_bounds-good_relations-start c = search rules

pub slice_bounds-good_relations-end : goal.slice_bounds-good_relations-end
slice_bounds-good_relations-end c = search rules

pub good_relations-requires : goal.good_relations-requires
good_relations-requires c = search rules

pub returns-then-good_visits : goal.returns-then-good_visits
returns-then-good_visits c =
    let s = c.args in
    let page = s.page.now in
    let n = c.size-n in
    let m = c.size-m in
    let size = c.if-page-ne512.false in
    let b = c.is_blank in
    let v = c.good_visits in
    let r = c.good_relations in
    rw (c.if-is_blank.true, c.if-good_visits.true) at
    (page_tests s.network.now s.s page size n.result m.result n.ensures.0 m.ensures.0 c.if-n-gt24.false c.if-m-gt6.false b.result v.result r.result
    b.ensures v.ensures r.ensures)

pub returns-else-good_visits : goal.returns-else-good_visits
returns-else-good_visits c =
    let s = c.args in
    let page = s.page.now in
    let n = c.size-n in
    let m = c.size-m in
    let size = c.if-page-ne512.false in
    let b = c.is_blank in
    let v = c.good_visits in
    rw (c.if-is_blank.true, c.if-good_visits.false) at
    (page_tests s.network.now s.s page size n.result m.result n.ensures.0 m.ensures.0 c.if-n-gt24.false c.if-m-gt6.false b.result v.result (relations_pass m.result (take 96 (drop 416 page)))
    b.ensures v.ensures refl)

pub returns-else-is_blank : goal.returns-else-is_blank
returns-else-is_blank c =
    let s = c.args in
    let page = s.page.now in
    let n = c.size-n in
    let m = c.size-m in
    let size = c.if-page-ne512.false in
    let b = c.is_blank in
    rw c.if-is_blank.false at
    (page_tests s.network.now s.s page size n.result m.result n.ensures.0 m.ensures.0 c.if-n-gt24.false c.if-m-gt6.false b.result (visits_pass s.network.now s.s n.result (take 384 (drop 32 page)))
    (relations_pass m.result (take 96 (drop 416 page))) b.ensures refl refl)
