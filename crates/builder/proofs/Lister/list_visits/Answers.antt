-- `builder::Lister::list_visits` meets its contract. The loop's invariant: what is left to put is what the rule tells
-- of the visits from index i on. Assumes nothing.
use Rattle.std.proofs.Common.{arith}
use Rattle.page.specs.between.Changes.{table_in}
use Rattle.rule_tests.specs.between.Tests.{held}
use Rattle.page.proofs.EntryLaws.{entries_over}
use Rattle.builder.specs.between.Builder.{visit_most, visits_most}
use Rattle.builder.specs.between.Kinds.{rule_number}
use Rattle.builder.proofs.FindingsPut.{left_start, left_on, left_end}
use Rattle.builder.proofs.BuildLaws.{walk_next, walk_none}
use Rattle.builder.proofs.Lister.list_visits.Goals as goal

pub loop-i-init : goal.loop-i-init
loop-i-init c = (omega arith, left_start c.args.at _ c.args.out.now)

pub loop-i-preserved : goal.loop-i-preserved
loop-i-preserved c =
    let s = c.args.self.now in
    let l = c.loop-i in
    let k = c.visit_count-k in
    let next = walk_next s.n.now s.scope (held s.sheet.now) (table_in s.here.now) s.s (rule_number c.args.rule) s.here.now l.i k.result k.ensures.0 c.loop-i-test.true in
    (omega (arith, c.list_one-to.ensures.2), left_on c.args.at _ c.args.out.now l.to c.list_one-to.result visit_most _ _ _ l.out _ next l.invariant.1 c.list_one-to.ensures)

pub returns : goal.returns
returns c =
    let s = c.args.self.now in
    let l = c.loop-i in
    let k = c.visit_count-k in
    let none = walk_none s.n.now s.scope (held s.sheet.now) (table_in s.here.now) s.s (rule_number c.args.rule) _ (entries_over s.here.now l.i k.result k.ensures.0 c.loop-i-test.false) in
    left_end c.args.at _ c.args.out.now l.to visits_most _ l.out none l.invariant.1 (omega (arith, k.ensures.1))
