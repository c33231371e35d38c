-- `builder::Lister::list_visits` meets its contract. The loop's invariant: what is left to put is what the rule tells
-- of the visits from index i on. Assumes nothing.
use Rattle.std.proofs.Common.{◌+◌, ◌*◌, ◌≤◌, drop}
use Rattle.page.specs.between.Changes.{table_in}
use Rattle.rule_tests.specs.between.Tests.{held}
use Rattle.builder.specs.between.Builder.{walk, visit_most}
use Rattle.builder.specs.between.Kinds.{rule_number}
use Rattle.builder.proofs.FindingsPut.{Left}
use Rattle.builder.proofs.Lister.list_visits.Given as goal

abbrev pub invariant-loop-i : goal.invariant-loop-i
invariant-loop-i l =
    let here = table_in l.self.here.now in
    let left = walk l.self.n.now l.self.scope (held l.self.sheet.now) here l.self.s (rule_number l.rule) in
    (l.to ≤ l.at + visit_most * l.i) × Left l.at (left here.visits) l.initial.out l.to (left (drop l.i here.visits)) l.out
