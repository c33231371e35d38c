-- `timetable_entries::read::relations` meets its contract: each turn is one law of the loops over entries. Assumes
-- nothing.
use Prim.Native.Nat.{ℕ}
use mathlib.Core.Path.{◌≡◌, sym, ◌∙◌, ap}
use mathlib.Core.List.{List}
use native.Mathlib.Omega.{arith}
use Rattle.std.proofs.lemmas.Result.{err_from_is_err_and}
use Rattle.base.specs.RefusalNumbers.{number_of}
use Rattle.timetable.specs.Formats.{read}
use Rattle.timetable.specs.EditsFile.{station_relation_entry}
use Rattle.timetable.specs.TimetableFile.{relation_floor, relations_format}
use Rattle.fields.specs.between.Answers.{in_use}
use Rattle.fields.proofs.RowHolds.{row_held}
use Rattle.timetable_entries.specs.Answers.{fault_told}
use Rattle.timetable_entries.specs.between.Entering.{relation_step}
use Rattle.timetable_entries.proofs.LoopLaws.{relation_station, left_at, reached_first, reached-next, reached-stop, reached-end}
use Rattle.timetable_entries.proofs.SheetEntries.{progress}
use Rattle.timetable_entries.proofs.read.relations.Goals as goal

-- the row's numbers in use are the floor
here : (file : List ℕ) (place : ℕ) {xs ys : List ℕ} → ys ≡ xs → read (station_relation_entry xs) file place ≡ read (station_relation_entry ys) file place
here file place e = ap (λ (l : List ℕ). read (station_relation_entry l) file place) (sym e)

pub loop-init : goal.loop-init
loop-init c =
    let s = c.args in
    let e = ap (λ (l : List ℕ). left_at station_relation_entry relation_floor s.file.now s.count l s.at) (sym (row_held c.new-floor.ensures)) in record {
      counted = omega arith;
      size = c.requires.0;
      reached = reached_first station_relation_entry relation_floor s.file.now (relation_step s.n.now) s.count s.at (progress s.sheet.now (fault_told s.fault)) (in_use c.new-floor.result) e;
    }

pub returns-in_err-entry-clause-read : goal.returns-in_err-entry-clause-read
unfolding relations_format
returns-in_err-entry-clause-read c =
    let s = c.args in
    let l = c.loop in
    let e = c.in_err-entry.field-0.0 in
    let p = err_from_is_err_and c.from_residual.result c.from_residual.ensures.1 in
    rw (p.1, p.2)
    (reached-stop station_relation_entry relation_floor s.file.now (relation_step s.n.now) s.count s.at (progress s.sheet.now (fault_told s.fault)) l.counter (in_use l.floor) l.place (progress l.sheet (fault_told l.first)) l.invariant.reached
    (omega arith) (number_of e.refusal) e.place (here s.file.now l.place c.in_use.ensures ∙ sym c.in_err-entry.ensures))

pub enter_relation-first-requires : goal.enter_relation-first-requires
enter_relation-first-requires c =
    let s = c.args in
    let l = c.loop in
    (l.invariant.size, relation_station (in_use l.floor) s.file.now l.place c.in_ok-entry.entry c.in_ok-entry.next (here s.file.now l.place c.in_use.ensures ∙ sym c.in_ok-entry.ensures))

pub loop-preserved : goal.loop-preserved
unfolding relation_floor
loop-preserved c =
    let s = c.args in
    let l = c.loop in
    let h = c.enter_relation-first in record {
      counted = omega arith;
      size = h.auto.sheet ∙ l.invariant.size;
      reached =
          reached-next station_relation_entry relation_floor s.file.now (relation_step s.n.now) s.count s.at (progress s.sheet.now (fault_told s.fault)) l.counter (in_use l.floor) l.place (progress l.sheet (fault_told l.first)) l.invariant.reached
          (omega arith) c.in_ok-entry.entry c.in_ok-entry.next _ _ (here s.file.now l.place c.in_use.ensures ∙ sym c.in_ok-entry.ensures) (row_held c.relation_numbers-floor.ensures) h.ensures;
    }

pub returns : goal.returns
unfolding relations_format
returns c =
    let s = c.args in
    let l = c.loop in
    let (a, b) =
    reached-end station_relation_entry relation_floor s.file.now (relation_step s.n.now) s.count s.at (progress s.sheet.now (fault_told s.fault)) l.counter (in_use l.floor) l.place (progress l.sheet (fault_told l.first)) l.invariant.reached (omega arith) in
    record { read = a; ok = b }
