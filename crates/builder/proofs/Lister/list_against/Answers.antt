-- `builder::Lister::list_against` meets its contract. The loop's invariant: what is left to put is t with the trains
-- from index i on. Assumes nothing.
use Rattle.std.proofs.Common.{arith, ◌≡◌}
use Rattle.page.specs.between.Changes.{table_in}
use Rattle.visits.specs.between.Entries.{entry_of}
use Rattle.rule_tests.specs.between.Tests.{clash}
use Rattle.page.proofs.EntryLaws.{entries_over}
use Rattle.builder.specs.between.Builder.{visit_most}
use Rattle.builder.specs.between.Kinds.{rule_number}
use Rattle.builder.proofs.FindingsPut.{left_start, left_on, left_end}
use Rattle.builder.proofs.BuildLaws.{against_next, against_none}
use Rattle.builder.proofs.Lister.list_against.Goals as goal

pub loop-i-init : goal.loop-i-init
loop-i-init c = (omega arith, omega arith, left_start c.args.at _ c.args.out.now)

pub finding-to-requires : goal.finding-to-requires
finding-to-requires c = omega arith

pub loop-i-preserved : goal.loop-i-preserved
loop-i-preserved c =
    let s = c.args.self.now in
    let l = c.loop-i in
    let k = c.visit_count-k in
    let t = entry_of c.args.t in
    let u = entry_of c.entry_at-u.result in
    let found : c.does_clash-found.result ≡ clash s.n.now (table_in s.here.now) s.s (rule_number c.args.rule) t u = rw (← c.from.ensures) c.does_clash-found.ensures in
    let next = against_next s.n.now (table_in s.here.now) s.s (rule_number c.args.rule) t c.args.there.now l.i k.result k.ensures.0 c.loop-i-test.true u c.does_clash-found.result c.entry_at-u.ensures found in
    (omega (arith, c.finding-to.ensures.2, k.ensures.1), omega (arith, c.finding-to.ensures.2), left_on c.args.at _ c.args.out.now l.to c.finding-to.result 4 _ _ _ l.out _ next l.invariant.2 c.finding-to.ensures)

pub returns : goal.returns
returns c =
    let s = c.args.self.now in
    let l = c.loop-i in
    let k = c.visit_count-k in
    left_end c.args.at _ c.args.out.now l.to visit_most _ l.out (against_none s.n.now (table_in s.here.now) s.s _ (entry_of c.args.t) _ (entries_over c.args.there.now l.i k.result k.ensures.0 c.loop-i-test.false)) l.invariant.2 l.invariant.0
