-- `builder::Lister::list_rule` meets its contract: the relations or the visits, where the list may take what is found.
-- Assumes nothing.
use Rattle.std.proofs.Common.{arith, ap}
use Rattle.page.specs.between.Changes.{table_in}
use Rattle.rule_tests.specs.between.Tests.{held}
use Rattle.timetable.proofs.BuffersFilled.{puts_as}
use Rattle.builder.specs.declared.kinds.Rule.{Rule}
use Rattle.builder.specs.between.Builder.{visits_most, relations_most}
use Rattle.builder.specs.between.Kinds.{rule_number}
use Rattle.builder.proofs.FindingsPut.{puts_more, puts_none}
use Rattle.builder.proofs.RuleLaws.{other_number}
use Rattle.builder.proofs.BuildLaws.{rule_unmet, rule_walk, rule_none}
use Rattle.builder.proofs.Lister.list_rule.Goals as goal

pub returns-then-not-is_asked : goal.returns-then-not-is_asked
returns-then-not-is_asked c =
    let s = c.args.self.now in
    puts_as c.args.at c.args.at _ _ _ _ visits_most
    (rule_none s.n.now s.scope (held s.sheet.now) (table_in s.here.now) s.s (rule_number c.args.rule) c.is_asked.result c.is_asked.ensures c.if-not-is_asked.true) (puts_none c.args.at visits_most c.args.out.now)

pub returns-in-Unmet : goal.returns-in-Unmet
returns-in-Unmet c =
    let s = c.args.self.now in
    puts_as c.args.at c.list_unmet.result _ _ _ _ visits_most
    (rule_unmet s.n.now s.scope (held s.sheet.now) (table_in s.here.now) s.s (rule_number c.args.rule) c.is_asked.result c.is_asked.ensures c.if-not-is_asked.false (ap rule_number c.in-Unmet.is))
    (puts_more c.args.at c.list_unmet.result relations_most visits_most _ _ _ (omega arith) c.list_unmet.ensures)

pub returns-in_default : goal.returns-in_default
returns-in_default c =
    let s = c.args.self.now in
    puts_as c.args.at c.list_visits.result _ _ _ _ visits_most
    (rule_walk s.n.now s.scope (held s.sheet.now) (table_in s.here.now) s.s (rule_number c.args.rule) c.is_asked.result c.is_asked.ensures c.if-not-is_asked.false (other_number c.args.rule Rule.Unmet c.in_default.not-Unmet))
    c.list_visits.ensures
