-- `division::merge` meets its contract: the tests that led to each return decide. Assumes nothing.
use Rattle.std.proofs.Common.{◌≡◌, sym, ◌∙◌, ap}
use Rattle.std.proofs.lemmas.Result.{err_from_is_err_and}
use lib.Dec.{T}
use Rattle.base.specs.RefusalNumbers.{refusal_number}
use Rattle.network.specs.Networks.{network_refusal}
use Rattle.timetable.proofs.OutputLaws.{number_there}
use Rattle.division.specs.between.Copies.{areas_high}
use Rattle.division.proofs.CopyLaws.{network_high}
use Rattle.division.proofs.DividingCalls.{merge_no_division, merge_no_sheet, merge-bad-network, merge-bad-division, merge-done}
use Rattle.division.proofs.merge.Goals as goal
use Rattle.division.proofs.merge.Goals.{then-division-ne49152-via-then-division-ne49152, then-division-ne49152-via-else-division-ne49152+then-sheet-ne8192}

pub returns-then-division-ne49152 : goal.returns-then-division-ne49152
returns-then-division-ne49152 c =
    let s = c.args in
    elim c.then-division-ne49152.branch [
      | then-division-ne49152-via-then-division-ne49152 w ↦ merge_no_division s.network.now s.division.now s.sheet.now w.if-division-ne49152.true
      | then-division-ne49152-via-else-division-ne49152+then-sheet-ne8192 w ↦
          merge_no_sheet s.network.now s.division.now s.sheet.now w.if-division-ne49152.false w.if-sheet-ne8192.true
    ]

pub returns-in_err-check : goal.returns-in_err-check
returns-in_err-check c =
    let s = c.args in
    let p = err_from_is_err_and c.from_residual.result c.from_residual.ensures.1 in
    let r = c.in_err-check.field-0.0 in
    rw (p.1, p.2) (merge-bad-network s.network.now s.division.now s.sheet.now c.if-division-ne49152.false c.if-sheet-ne8192.false _ c.in_err-check.ensures (number_there r))

pub returns-then-not-good_division : goal.returns-then-not-good_division
returns-then-not-good_division c =
    let s = c.args in
    merge-bad-division s.network.now s.division.now s.sheet.now c.if-division-ne49152.false c.if-sheet-ne8192.false (sym c.check.ensures ∙ ap refusal_number c.in_ok-check.was)
    (sym c.if-not-good_division.ensures)

pub collect-requires : goal.collect-requires
collect-requires c =
    let s = c.args in
    let good : network_refusal s.network.now ≡ 0 = sym c.check.ensures ∙ ap refusal_number c.in_ok-check.was in
    let high : T (areas_high c.areas.result) = rw c.areas.ensures (network_high s.network.now good) in
    (c.if-sheet-ne8192.false, c.if-division-ne49152.false, high)

pub returns : goal.returns
returns c =
    let s = c.args in
    let a = c.areas in
    merge-done s.network.now s.division.now s.sheet.now c.if-division-ne49152.false c.if-sheet-ne8192.false (sym c.check.ensures ∙ ap refusal_number c.in_ok-check.was)
    (sym c.if-not-good_division.ensures) a.result c.collect.new.sheet a.ensures c.collect.ensures
