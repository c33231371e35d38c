-- `page_rules::relations::is_met` meets its contract: each kind by its law. Assumes nothing.
use borrow.Author.Rules.{rules}
use mathlib.Core.Bool.{true}
use mathlib.Core.Path.{refl}
use Rattle.base.specs.Lists.{each_two}
use Rattle.railway.specs.Relations.{used}
use Rattle.timetable.specs.Visits.{stops}
use Rattle.timetable.specs.Rules.{both_visit, met, connected, disconnected}
use Rattle.page.specs.between.Changes.{table_in}
use Rattle.page_rules.proofs.RuleLaws.{and_then, and_else}
use Rattle.page_rules.proofs.relations.is_met.Goals as goal

pub returns-then-each_met : goal.returns-then-each_met
unfolding met
returns-then-each_met c =
    let k = c.in-Connection in
    rw k.is (and_then (c.each_met.ensures stops (λ v b q. search rules)) c.if-each_met.true (c.pairs_met.ensures (connected k.i) (λ v w b q. search rules)) refl)

pub returns-else-each_met : goal.returns-else-each_met
unfolding met
returns-else-each_met c =
    let k = c.in-Connection in
    rw k.is (and_else (each_two (both_visit (connected k.i) (table_in c.args.page.now)) (used k.ts)) (c.each_met.ensures stops (λ v b q. search rules)) c.if-each_met.false refl)

pub returns-then-each_met-2 : goal.returns-then-each_met-2
unfolding met
returns-then-each_met-2 c =
    let k = c.in-Disconnection in
    rw k.is (and_then (c.each_met-in-Disconnection.ensures (λ v. true) (λ v b q. search rules)) c.if-each_met-2.true
    (c.pairs_met-then-each_met-2.ensures (disconnected k.i) (λ v w b q. search rules)) refl)

pub returns-else-each_met-2 : goal.returns-else-each_met-2
unfolding met
returns-else-each_met-2 c =
    let k = c.in-Disconnection in
    rw k.is (and_else (each_two (both_visit (disconnected k.i) (table_in c.args.page.now)) (used k.ts)) (c.each_met-in-Disconnection.ensures (λ v. true) (λ v b q. search rules)) c.if-each_met-2.false refl)
