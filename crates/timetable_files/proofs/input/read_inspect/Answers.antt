-- `timetable_files::input::read_inspect` meets its contract: 5, a faulty number of the network, or the timetable behind
-- it as a whole. Assumes nothing.
use Rattle.std.proofs.lemmas.Result.{err_from_is_err_and}
use Rattle.timetable_entries.specs.Answers.{fault_told}
use Rattle.timetable_files.proofs.InspectLaws.{wrong_length, network_faulty, rest_refused, rest_taken}
use Rattle.timetable_files.proofs.input.read_inspect.Goals as goal

pub returns-then-sheet-ne8192 : goal.returns-then-sheet-ne8192
returns-then-sheet-ne8192 c = let s = c.args in wrong_length s.file.now s.sheet.now c.if-sheet-ne8192.true

pub returns-in_err-head : goal.returns-in_err-head
returns-in_err-head c =
    let s = c.args in
    let p = err_from_is_err_and c.from_residual.result c.from_residual.ensures.1 in
    rw (p.1, p.2) (network_faulty s.file.now s.sheet.now c.if-sheet-ne8192.false c.in_err-head.field-0.0 c.in_err-head.ensures)

pub returns-in-Err : goal.returns-in-Err
returns-in-Err c =
    let s = c.args in
    let d = c.in_ok-head in
    let (x, o, is) = d.ensures in
    let r = c.in-Err.ensures in
    rest_refused s.file.now s.sheet.now x d.first o d.head.network is.0 (fault_told d.head.fault) is.1 c.in-Err.fault r.0 _ r.1

pub returns-in-Ok : goal.returns-in-Ok
returns-in-Ok c =
    let s = c.args in
    let d = c.in_ok-head in
    let (x, o, is) = d.ensures in
    let r = c.in-Ok in
    rest_taken s.file.now s.sheet.now x d.first o d.head.network is.0 (fault_told d.head.fault) is.1 r.place r.ensures.0 _ r.ensures.1
