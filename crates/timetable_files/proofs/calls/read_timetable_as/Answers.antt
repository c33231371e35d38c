-- `timetable_files::calls::read_timetable_as` meets its contract: 5, 3 of the network, or the file as a whole. Assumes
-- nothing.
use mathlib.Core.Path.{sym, ◌∙◌, ap}
use native.Mathlib.Omega.{arith}
use Rattle.base.specs.RefusalNumbers.{number_of}
use Rattle.timetable_files.proofs.CallLaws.{only_three, wrong_length, network_odd, as-rest}
use Rattle.timetable_files.proofs.calls.read_timetable_as.Goals as goal

pub returns-then-sheet-ne8192 : goal.returns-then-sheet-ne8192
returns-then-sheet-ne8192 c = let s = c.args in wrong_length s.form s.n.now s.file.now s.sheet.now c.if-sheet-ne8192.true

pub returns-in-Ok : goal.returns-in-Ok
returns-in-Ok c =
    let s = c.args in
    let r = c.read_rest.ensures in
    as-rest s.form s.n.now s.file.now s.sheet.now c.if-sheet-ne8192.false 0 c.in-Ok.ensures (λ q. omega (arith, q)) _ _ r.0 r.1

pub returns-in-OutOfRange : goal.returns-in-OutOfRange
returns-in-OutOfRange c =
    let s = c.args in
    let three = ap number_of c.in-OutOfRange.is in
    rw three (network_odd s.form s.n.now s.file.now s.sheet.now c.if-sheet-ne8192.false (sym three ∙ c.in-Err.ensures))

pub returns-in_default : goal.returns-in_default
returns-in_default c =
    let s = c.args in
    let r = c.read_rest-in_default.ensures in
    as-rest s.form s.n.now s.file.now s.sheet.now c.if-sheet-ne8192.false (number_of c.in-Err.refusal) c.in-Err.ensures
    (λ q. c.in_default.not-OutOfRange (only_three c.in-Err.refusal q)) _ _ r.0 r.1
