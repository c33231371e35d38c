-- `timetable_entries::enter::enter_visit` meets its contract: an earlier fault stays, a refused entry is the first, any
-- other changes its station's page. Assumes nothing.
use mathlib.Core.Path.{refl, sym, ◌∙◌}
use Rattle.std.specs.Prelude.{None}
use Rattle.base.specs.RefusalNumbers.{number_of}
use Rattle.timetable.proofs.OutputLaws.{number_there}
use Rattle.timetable_entries.specs.Answers.{fault_told}
use Rattle.timetable_entries.proofs.EnterLaws.{visit_kept, visit-stopped, visit-taken, fault_there, fault_none}
use Rattle.timetable_entries.proofs.enter.enter_visit.Goals as goal

pub returns-then-is_some : goal.returns-then-is_some
returns-then-is_some c =
    let s = c.args in
    visit_kept s.entry.station s.sheet.now c.requires.0 c.requires.1 s.entry.station.0 refl s.n.now s.place (fault_told s.fault) s.entry.train s.entry.visit (fault_there s.fault (sym c.is_some.ensures ∙ c.if-is_some.true))

pub returns-in-Err : goal.returns-in-Err
returns-in-Err c =
    let s = c.args in
    let r = c.in-Err.refusal in
    rw (fault_none s.fault (sym c.is_some.ensures ∙ c.if-is_some.false))
    (visit-stopped s.entry.station s.sheet.now c.requires.0 c.requires.1 c.from.result c.from.ensures s.n.now s.place (fault_told None) s.entry.train s.entry.visit (number_of r) c.in-Err.ensures refl (number_there r))

pub returns-in-Ok : goal.returns-in-Ok
returns-in-Ok c =
    let s = c.args in
    let h = c.add_visit in
    rw (fault_none s.fault (sym c.is_some.ensures ∙ c.if-is_some.false))
    (visit-taken s.entry.station s.sheet.now c.requires.0 c.requires.1 c.from.result c.from.ensures s.n.now s.place (fault_told None) s.entry.train s.entry.visit 0 c.in-Ok.ensures refl refl h.new.page h.auto.page h.ensures.1)
