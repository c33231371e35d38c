-- `builder::Lister::list_one` meets its contract: by the rule. Assumes nothing.
use Rattle.std.proofs.Common.{arith, ◌≡◌, ◌+◌, ap, drop}
use Rattle.page.specs.between.Changes.{table_in}
use Rattle.page.specs.between.Entries.{entry_at}
use Rattle.visits.specs.between.Entries.{entry_of}
use Rattle.rule_tests.specs.between.Tests.{held, broken, second_of}
use Rattle.timetable.proofs.BuffersFilled.{puts_as}
use Rattle.builder.specs.declared.kinds.Rule.{Rule}
use Rattle.builder.specs.between.Builder.{visit_most}
use Rattle.builder.specs.between.Kinds.{rule_number}
use Rattle.builder.proofs.FindingsPut.{puts_more}
use Rattle.builder.proofs.RuleLaws.{other_number, paired_number}
use Rattle.builder.proofs.BuildLaws.{step_paired, step_facing, step_one}
use Rattle.builder.proofs.Lister.list_one.Goals as goal

pub returns-in-TrackTaken : goal.returns-in-TrackTaken
returns-in-TrackTaken c =
    let s = c.args.self.now in
    puts_as c.args.at c.list_against.result _ _ _ _ visit_most
    (step_paired s.n.now s.scope (held s.sheet.now) (table_in s.here.now) s.s (rule_number c.args.rule) (entry_at c.args.i s.here.now) (entry_of c.entry_at-t.result) (drop (c.args.i + 1) (table_in s.here.now).visits) c.entry_at-t.ensures (paired_number c.args.rule c.in-TrackTaken.is))
    c.list_against.ensures

pub returns-in-Opposed : goal.returns-in-Opposed
returns-in-Opposed c =
    let s = c.args.self.now in
    puts_as c.args.at c.list_facing.result _ _ _ _ visit_most
    (step_facing s.n.now s.scope (held s.sheet.now) (table_in s.here.now) s.s (rule_number c.args.rule) (entry_at c.args.i s.here.now) (entry_of c.entry_at-t.result) (drop (c.args.i + 1) (table_in s.here.now).visits) c.entry_at-t.ensures (ap rule_number c.in-Opposed.is))
    c.list_facing.ensures

pub returns-in_default : goal.returns-in_default
returns-in_default c =
    let s = c.args.self.now in
    let r = c.args.rule in
    let x = entry_of c.entry_at-t.result in
    let found : c.is_broken-found.result ≡ broken s.n.now s.scope (held s.sheet.now) (table_in s.here.now) s.s (rule_number r) x = rw (← c.from-number.ensures) c.is_broken-found.ensures in
    let second : c.second_of-second.result ≡ second_of (rule_number r) x = rw (← c.from-number.ensures) c.second_of-second.ensures in
    puts_as c.args.at c.finding.result _ _ _ _ visit_most
    (step_one s.n.now s.scope (held s.sheet.now) (table_in s.here.now) s.s (rule_number r) (entry_at c.args.i s.here.now) x (drop (c.args.i + 1) (table_in s.here.now).visits) c.entry_at-t.ensures (other_number r Rule.TrackTaken c.in_default.not-TrackTaken) (other_number r Rule.Headway c.in_default.not-Headway) (other_number r Rule.Opposed c.in_default.not-Opposed) _ found _ second)
    (puts_more c.args.at c.finding.result 4 visit_most _ _ _ (omega arith) c.finding.ensures)
