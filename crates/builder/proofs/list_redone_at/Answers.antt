-- `builder::list_redone_at` meets its contract: the rules listed are those of the station's level. Assumes nothing.
use Rattle.std.proofs.Common.{arith, ◌∙◌, ◌≡◌, refl, ap}
use Rattle.page.specs.between.Changes.{table_in}
use Rattle.rule_tests.specs.between.Tests.{held}
use Rattle.rule_tests.proofs.HeldLaws.{page_read}
use Rattle.scope.specs.Redone.{level}
use Rattle.timetable.specs.Tables.{Table}
use Rattle.timetable.proofs.BuffersFilled.{puts_as}
use Rattle.builder.specs.between.Builder.{station_most, first_rule, rules_redone, numbers_from}
use Rattle.builder.proofs.BuildLaws.{redone_range, redone_is, rules_are}
use Rattle.builder.proofs.MostLaws.{page_bound}
use Rattle.builder.proofs.list_redone_at.Goals as goal

pub list_rules-requires : goal.list_rules-requires
list_rules-requires c =
    let s = c.args in
    let k = c.level-level.result in
    let range = redone_range k in
    let here = table_in c.page_of-here.result.now in
    let few = page_bound s.n.now s.scope s.sheet.now s.s here (page_read s.sheet.now _ s.s c.page_of-here.ensures) (first_rule k) (rules_redone k) range.0 range.1 in
    let are = rules_are s.n.now s.scope (held s.sheet.now) here s.s _ (first_rule k) (rules_redone k) c.rules_redone.ensures in
    (omega arith, rw are few)

pub returns : goal.returns
returns c =
    let s = c.args in
    let k = c.level-level in
    let here = table_in c.page_of-here.result.now in
    let first = first_rule k.result in
    let count = rules_redone k.result in
    let level_is : k.result ≡ level s.marks s.s.0 = rw (← c.from.ensures) k.ensures in
    let are = rules_are s.n.now s.scope (held s.sheet.now) here s.s _ first count c.rules_redone.ensures in
    let there = ap (λ (x : Table). numbers_from s.n.now s.scope (held s.sheet.now) x s.s first count) (page_read s.sheet.now _ s.s c.page_of-here.ensures) in
    puts_as s.at c.list_rules.result _ _ _ _ station_most
    (are ∙ there ∙ redone_is s.n.now s.scope s.marks (held s.sheet.now) s.s k.result first count level_is refl refl)
    c.list_rules.ensures
