-- `builder::Lister::list_rules` meets its contract. The loop's invariant: what is left to put is what the rules from an
-- index on list. Assumes nothing.
use Rattle.std.proofs.Common.{arith}
use Rattle.page.specs.between.Changes.{table_in}
use Rattle.rule_tests.specs.between.Tests.{held}
use Rattle.builder.specs.between.Builder.{rule_numbers, visits_most, station_most}
use Rattle.builder.specs.between.Kinds.{rule_number}
use Rattle.builder.proofs.FindingsPut.{left_on, left_end}
use Rattle.builder.proofs.BuildLaws.{each_next, each_over}
use Rattle.builder.proofs.Lister.list_rules.Goals as goal

pub loop-rule-preserved : goal.loop-rule-preserved
loop-rule-preserved c =
    let s = c.args.self.now in
    let l = c.loop-rule in
    let next = each_next (λ r. rule_numbers s.n.now s.scope (held s.sheet.now) (table_in s.here.now) s.s (rule_number r)) c.args.rules.now l.rule-index _ c.loop-rule-test.true in
    left_on c.args.at _ c.args.out.now l.to c.list_rule-to.result visits_most _ _ _ l.out _ next l.invariant c.list_rule-to.ensures

pub returns : goal.returns
returns c =
    let s = c.args.self.now in
    let l = c.loop-rule in
    let over = each_over (λ r. rule_numbers s.n.now s.scope (held s.sheet.now) (table_in s.here.now) s.s (rule_number r)) c.args.rules.now l.rule-index c.loop-rule-test.false in
    left_end c.args.at _ c.args.out.now l.to station_most _ l.out over l.invariant (omega (arith, c.requires, l.invariant.0))
