-- `builder::Lister::list_unmet` meets its contract. The loop's invariant: what is left to put is the relations from
-- index i on. Assumes nothing.
use Rattle.std.proofs.Common.{arith, ◌∙◌, ◌+◌}
use Rattle.page.specs.between.Changes.{table_in}
use Rattle.page.proofs.EntryLaws.{relation_of, relations_over}
use Rattle.builder.specs.between.Builder.{relations_most}
use Rattle.builder.proofs.FindingsPut.{left_start, left_on, left_end}
use Rattle.builder.proofs.BuildLaws.{unmet_next, unmet_none}
use Rattle.builder.proofs.Lister.list_unmet.Goals as goal

pub loop-i-init : goal.loop-i-init
loop-i-init c = (omega arith, left_start c.args.at _ c.args.out.now)

pub finding-to-requires : goal.finding-to-requires
finding-to-requires c = omega (arith, c.relation_count-k.ensures.1)

pub loop-i-preserved : goal.loop-i-preserved
loop-i-preserved c =
    let s = c.args.self.now in
    let l = c.loop-i in
    let k = c.relation_count-k in
    let read = c.relation_in-q.ensures ∙ relation_of _ _ _ c.relation_record.ensures in
    let next = unmet_next (table_in s.here.now) s.s s.here.now l.i k.result k.ensures.0 c.loop-i-test.true (l.i + 1) c.relation_in-q.result c.is_met-met.result read c.is_met-met.ensures in
    (omega (arith, c.finding-to.ensures.2), left_on c.args.at _ c.args.out.now l.to c.finding-to.result 4 _ _ _ l.out _ next l.invariant.1 c.finding-to.ensures)

pub returns : goal.returns
returns c =
    let s = c.args.self.now in
    let l = c.loop-i in
    let k = c.relation_count-k in
    let none = unmet_none (table_in s.here.now) s.s (l.i + 1) _ (relations_over s.here.now l.i k.result k.ensures.0 c.loop-i-test.false) in
    left_end c.args.at _ c.args.out.now l.to relations_most _ l.out none l.invariant.1 (omega (arith, k.ensures.1))
