-- `timetable_entries::enter::put_relation` meets its contract by the test. Assumes nothing.
use mathlib.Core.Path.{sym, ◌∙◌}
use Rattle.timetable_entries.specs.between.Entering.{page_with_relation}
use Rattle.timetable_entries.proofs.enter.put_relation.Goals as goal

pub returns-then-not-has_relation : goal.returns-then-not-has_relation
unfolding page_with_relation
returns-then-not-has_relation c = c.add_relation.ensures.1 ∙ rw (sym c.has_relation.ensures ∙ c.if-not-has_relation.true)

pub returns-else-not-has_relation : goal.returns-else-not-has_relation
unfolding page_with_relation
returns-else-not-has_relation c = rw (sym c.has_relation.ensures ∙ c.if-not-has_relation.false)
