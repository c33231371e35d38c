-- `builder::list_all` meets its contract: what is redone where all is, is the whole list. Assumes nothing.
use mathlib.Core.Path.{◌∙◌, ap}
use Rattle.rule_tests.specs.between.Tests.{held}
use Rattle.scope.specs.declared.redone.Marks.{Marks}
use Rattle.builder.specs.between.Builder.{list_most, redone_numbers}
use Rattle.timetable.proofs.BuffersFilled.{puts_as}
use Rattle.builder.proofs.BuildLaws.{all_redone_is}
use Rattle.builder.proofs.list_all.Goals as goal

pub returns : goal.returns
returns c =
    let s = c.args in
    let w = c.list_redone in
    let marks = c.everywhere in
    let all = ap (λ (x : Marks). redone_numbers s.n.now s.scope x (held s.sheet.now)) marks.ensures ∙ all_redone_is s.n.now s.scope (held s.sheet.now) in
    puts_as 0 w.result _ _ s.out.now _ list_most all w.ensures
