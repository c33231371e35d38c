-- `sheet::test::any_visit` meets its contract: the tests that led to each return decide. Assumes nothing.
use mathlib.Core.Path.{refl, ◌∙◌}
use Rattle.sheet.specs.between.Passes.{in_passes, out_passes}
use Rattle.sheet.proofs.PassLaws.{visit_tests}
use Rattle.sheet.proofs.LinkRows.{values_known}
use Rattle.sheet.proofs.test.any_visit.Goals as goal

pub returns-then-in_good : goal.returns-then-in_good
returns-then-in_good c =
    let s = c.args in
    let g = c.good_values in
    let i = c.in_good in
    let o = c.out_good in
    rw (c.if-good_values.true, c.if-in_good.true) at
    (visit_tests s.network.now s.s s.v g.result i.result o.result (g.ensures ∙ values_known s.network.now s.s s.v s.tracks c.requires) i.ensures o.ensures)

pub returns-else-in_good : goal.returns-else-in_good
returns-else-in_good c =
    let s = c.args in
    let g = c.good_values in
    let i = c.in_good in
    rw (c.if-good_values.true, c.if-in_good.false) at
    (visit_tests s.network.now s.s s.v g.result i.result (out_passes s.network.now s.s s.v.outward)
    (g.ensures ∙ values_known s.network.now s.s s.v s.tracks c.requires) i.ensures refl)

pub returns-else-good_values : goal.returns-else-good_values
returns-else-good_values c =
    let s = c.args in
    let g = c.good_values in
    rw c.if-good_values.false at
    (visit_tests s.network.now s.s s.v g.result (in_passes s.network.now s.s s.v.inward) (out_passes s.network.now s.s s.v.outward)
    (g.ensures ∙ values_known s.network.now s.s s.v s.tracks c.requires) refl refl)
