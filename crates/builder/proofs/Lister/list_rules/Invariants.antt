-- `builder::Lister::list_rules` meets its contract. The loop's invariant: what is left to put is what the rules from an
-- index on list. Assumes nothing.
use Rattle.std.proofs.Common.{drop}
use Rattle.page.specs.between.Changes.{table_in}
use Rattle.rule_tests.specs.between.Tests.{held}
use Rattle.builder.specs.between.Kinds.{each_rule}
use Rattle.builder.proofs.FindingsPut.{Left}
use Rattle.builder.proofs.Lister.list_rules.Given as goal

abbrev pub invariant-loop-rule : goal.invariant-loop-rule
invariant-loop-rule l =
    let left = each_rule l.self.n.now l.self.scope (held l.self.sheet.now) (table_in l.self.here.now) l.self.s in
    Left l.at (left l.rules) l.initial.out l.to (left (drop l.rule-index l.rules)) l.out
