-- `sheet::test::good_place` meets its contract: the test that led to each return decides. Assumes nothing.
use mathlib.Core.Path.{◌∙◌}
use Rattle.sheet.proofs.PassLaws.{place_over, place_bare}
use borrow.Author.Rules.{rules}
use Rattle.sheet.proofs.test.good_place.Goals as goal

pub is_over-requires : goal.is_over-requires
is_over-requires c = search rules

pub page_under-requires : goal.page_under-requires
page_under-requires c = search rules

pub returns-then-is_over : goal.returns-then-is_over
returns-then-is_over c =
    let s = c.args in
    let o = c.is_over in
    c.page_under.ensures ∙ place_over s.network.now s.extent s.k s.page.now o.result o.ensures c.if-is_over.true

pub is_blank-requires : goal.is_blank-requires
is_blank-requires c = search rules

pub returns : goal.returns
returns c =
    let s = c.args in
    let o = c.is_over in
    c.is_blank.ensures ∙ place_bare s.network.now s.extent s.k s.page.now o.result o.ensures c.if-is_over.false
