-- `timetable_entries::read::visits` meets its contract: each turn is one law of the loops over entries. Assumes
-- nothing.
use mathlib.Core.Path.{refl, sym, ◌∙◌}
use mathlib.Core.List.{[], ◌∷◌}
use native.Mathlib.Omega.{arith}
use Rattle.std.proofs.lemmas.Result.{err_from_is_err_and}
use Rattle.base.specs.RefusalNumbers.{number_of}
use Rattle.timetable.specs.TimetableFile.{visit_entry, visit_floor, visits_format}
use Rattle.visit_files.proofs.VisitLaws.{none_before, visit_station}
use Rattle.timetable_entries.specs.Answers.{fault_told}
use Rattle.timetable_entries.specs.between.Entering.{no_fault, visit_step}
use Rattle.timetable_entries.proofs.LoopLaws.{station_visit, same_left, reached_first, reached-next, reached-stop, reached-end}
use Rattle.timetable_entries.proofs.SheetEntries.{progress}
use Rattle.timetable_entries.proofs.read.visits.Goals as goal

pub loop-init : goal.loop-init
loop-init c =
    let s = c.args in
    let e = same_left (visit_entry s.form) visit_floor s.file.now (0 ∷ 0 ∷ []) (none_before s.form s.file.now) s.count s.at in record {
      counted = omega arith;
      size = c.requires.0;
      reached = reached_first (visit_entry s.form) visit_floor s.file.now (visit_step s.n.now) s.count s.at (progress s.sheet.now no_fault) (0 ∷ 0 ∷ []) e;
    }

pub returns-in_err-entry-clause-read : goal.returns-in_err-entry-clause-read
unfolding visits_format
returns-in_err-entry-clause-read c =
    let s = c.args in
    let l = c.loop in
    let e = c.in_err-entry.field-0.0 in
    let p = err_from_is_err_and c.from_residual.result c.from_residual.ensures.1 in
    rw (p.1, p.2)
    (reached-stop (visit_entry s.form) visit_floor s.file.now (visit_step s.n.now) s.count s.at (progress s.sheet.now no_fault) l.counter (l.station.0 ∷ l.train.0 ∷ []) l.place (progress l.sheet (fault_told l.first)) l.invariant.reached
    (omega arith) (number_of e.refusal) e.place (sym c.in_err-entry.ensures))

pub enter_visit-first-requires : goal.enter_visit-first-requires
enter_visit-first-requires c =
    let s = c.args in
    let l = c.loop in
    let x = c.in_ok-entry.entry in
    (l.invariant.size, visit_station s.form (l.station.0 ∷ l.train.0 ∷ []) s.file.now l.place (station_visit x.station x.train x.visit) c.in_ok-entry.next (sym c.in_ok-entry.ensures))

pub loop-preserved : goal.loop-preserved
unfolding visit_floor
loop-preserved c =
    let s = c.args in
    let l = c.loop in
    let x = c.in_ok-entry.entry in
    let h = c.enter_visit-first in record {
      counted = omega arith;
      size = h.auto.sheet ∙ l.invariant.size;
      reached =
          reached-next (visit_entry s.form) visit_floor s.file.now (visit_step s.n.now) s.count s.at (progress s.sheet.now no_fault) l.counter (l.station.0 ∷ l.train.0 ∷ []) l.place (progress l.sheet (fault_told l.first)) l.invariant.reached
          (omega arith) (station_visit x.station x.train x.visit) c.in_ok-entry.next (x.station.0 ∷ x.train.0 ∷ []) _ (sym c.in_ok-entry.ensures) refl h.ensures;
    }

pub returns : goal.returns
unfolding visits_format
returns c =
    let s = c.args in
    let l = c.loop in
    let (a, b) =
    reached-end (visit_entry s.form) visit_floor s.file.now (visit_step s.n.now) s.count s.at (progress s.sheet.now no_fault) l.counter (l.station.0 ∷ l.train.0 ∷ []) l.place (progress l.sheet (fault_told l.first)) l.invariant.reached (omega arith) in
    record { read = a; ok = b }
