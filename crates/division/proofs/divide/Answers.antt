-- `division::divide` meets its contract: the tests that led to each return decide. Assumes nothing.
use Rattle.std.proofs.Common.{sym, ◌∙◌, ap}
use Rattle.std.proofs.lemmas.Result.{err_from_is_err_and}
use Rattle.base.specs.RefusalNumbers.{refusal_number}
use Rattle.timetable.proofs.OutputLaws.{number_there}
use Rattle.division.proofs.DividingCalls.{divide_no_sheet, divide_no_division, divide-refused, divide-done}
use Rattle.division.proofs.divide.Goals as goal
use Rattle.division.proofs.divide.Goals.{then-sheet-ne8192-via-then-sheet-ne8192, then-sheet-ne8192-via-else-sheet-ne8192+then-division-ne49152}

pub returns-then-sheet-ne8192 : goal.returns-then-sheet-ne8192
returns-then-sheet-ne8192 c =
    let s = c.args in
    elim c.then-sheet-ne8192.branch [
      | then-sheet-ne8192-via-then-sheet-ne8192 w ↦ divide_no_sheet s.network.now s.sheet.now s.division.now w.if-sheet-ne8192.true
      | then-sheet-ne8192-via-else-sheet-ne8192+then-division-ne49152 w ↦
          divide_no_division s.network.now s.sheet.now s.division.now w.if-sheet-ne8192.false w.if-division-ne49152.true
    ]

pub returns-in_err-sheet_refusal : goal.returns-in_err-sheet_refusal
returns-in_err-sheet_refusal c =
    let s = c.args in
    let p = err_from_is_err_and c.from_residual.result c.from_residual.ensures.1 in
    let r = c.in_err-sheet_refusal.field-0.0 in
    rw (p.1, p.2) (divide-refused s.network.now s.sheet.now s.division.now c.if-sheet-ne8192.false c.if-division-ne49152.false _ c.in_err-sheet_refusal.ensures (number_there r))

pub returns : goal.returns
returns c =
    let s = c.args in
    let a = c.areas in
    divide-done s.network.now s.sheet.now s.division.now c.if-sheet-ne8192.false c.if-division-ne49152.false (sym c.sheet_refusal.ensures ∙ ap refusal_number c.in_ok-sheet_refusal.was)
    a.result c.fill_all.new.division a.ensures c.fill_all.ensures
