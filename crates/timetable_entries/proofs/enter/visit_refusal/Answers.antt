-- `timetable_entries::enter::visit_refusal` meets its contract by the two tests. Assumes nothing.
use Rattle.page.specs.between.Changes.{table_in}
use Rattle.timetable_entries.proofs.EnterLaws.{visit_unknown, visit_room, visit_full}
use Rattle.timetable_entries.proofs.enter.visit_refusal.Goals as goal

pub returns-then-not-visit_known : goal.returns-then-not-visit_known
returns-then-not-visit_known c =
    let s = c.args in
    visit_unknown s.n.now s.s (table_in s.part.now) s.v _ c.visit_known.ensures c.if-not-visit_known.true

pub returns-then-visit_count-lt24 : goal.returns-then-visit_count-lt24
returns-then-visit_count-lt24 c =
    let s = c.args in
    visit_room s.n.now s.s (table_in s.part.now) s.v _ c.visit_known.ensures c.if-not-visit_known.false _ c.visit_count.ensures.0 c.if-visit_count-lt24.true

pub returns : goal.returns
returns c =
    let s = c.args in
    visit_full s.n.now s.s (table_in s.part.now) s.v _ c.visit_known.ensures c.if-not-visit_known.false _ c.visit_count.ensures.0 c.if-visit_count-lt24.false
