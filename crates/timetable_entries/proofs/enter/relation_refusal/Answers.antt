-- `timetable_entries::enter::relation_refusal` meets its contract by the two tests. Assumes nothing.
use Rattle.page.specs.between.Changes.{table_in}
use Rattle.timetable_entries.proofs.EnterLaws.{relation_unknown, relation_room, relation_full}
use Rattle.timetable_entries.proofs.enter.relation_refusal.Goals as goal

pub returns-then-not-listed : goal.returns-then-not-listed
returns-then-not-listed c =
    let s = c.args in
    relation_unknown s.n.now s.s (table_in s.part.now) _ c.listed.ensures c.if-not-listed.true

pub returns-then-relation_count-lt6 : goal.returns-then-relation_count-lt6
returns-then-relation_count-lt6 c =
    let s = c.args in
    relation_room s.n.now s.s (table_in s.part.now) _ c.listed.ensures c.if-not-listed.false _ c.relation_count.ensures.0 c.if-relation_count-lt6.true

pub returns : goal.returns
returns c =
    let s = c.args in
    relation_full s.n.now s.s (table_in s.part.now) _ c.listed.ensures c.if-not-listed.false _ c.relation_count.ensures.0 c.if-relation_count-lt6.false
