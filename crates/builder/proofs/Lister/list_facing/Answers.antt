-- `builder::Lister::list_facing` meets its contract: by the visit's link, and by whether the list takes its far station.
-- Assumes nothing.
use Rattle.std.proofs.Common.{sym}
use Rattle.page.specs.between.Changes.{table_in}
use Rattle.visits.specs.between.Entries.{entry_of}
use Rattle.rule_tests.specs.between.Tests.{held}
use Rattle.rule_tests.proofs.HeldLaws.{page_read}
use Rattle.builder.specs.between.Builder.{visit_most}
use Rattle.timetable.proofs.BuffersFilled.{puts_as}
use Rattle.builder.proofs.FindingsPut.{puts_none}
use Rattle.builder.proofs.BuildLaws.{facing_none, facing_at, facing_not}
use Rattle.builder.proofs.Lister.list_facing.Goals as goal

pub returns-then-is_taken : goal.returns-then-is_taken
returns-then-is_taken c =
    let s = c.args.self.now in
    let there = c.page_of-there in
    puts_as c.args.at c.list_against.result _ _ _ _ visit_most
    (facing_at s.n.now s.scope (held s.sheet.now) (table_in s.here.now) s.s (entry_of c.args.t) _ c.is_taken.result c.in-To.is c.is_taken.ensures c.if-is_taken.true (table_in there.result.now) (page_read s.sheet.now _ _ there.ensures))
    c.list_against.ensures

pub returns-in_default : goal.returns-in_default
returns-in_default c =
    let s = c.args.self.now in
    puts_as c.args.at c.args.at _ _ _ _ visit_most
    (sym (facing_none s.n.now s.scope (held s.sheet.now) (table_in s.here.now) s.s (entry_of c.args.t) c.in_default.is)) (puts_none c.args.at visit_most c.args.out.now)

pub returns : goal.returns
returns c =
    let s = c.args.self.now in
    puts_as c.args.at c.args.at _ _ _ _ visit_most
    (facing_not s.n.now s.scope (held s.sheet.now) (table_in s.here.now) s.s (entry_of c.args.t) _ c.is_taken.result c.in-To.is c.is_taken.ensures c.if-is_taken.false) (puts_none c.args.at visit_most c.args.out.now)
