-- `findings::calls::extent_refusal` meets its contract: each return by the tests that led there. Assumes
-- nothing.
use Rattle.std.proofs.Common.{sym, ◌∙◌, ap}
use Rattle.std.proofs.lemmas.Result.{err_from_is_err_and}
use Rattle.base.specs.RefusalNumbers.{refusal_number}
use Rattle.findings.specs.Lists.{list_early}
use Rattle.timetable.proofs.OutputLaws.{number_there}
use Rattle.findings.proofs.ListCalls.{extent_short, extent_early, extent_bad, extent_good}
use Rattle.findings.proofs.calls.extent_refusal.Goals as goal

pub returns-then-sheet-ne8192 : goal.returns-then-sheet-ne8192
returns-then-sheet-ne8192 c = let s = c.args in extent_short s.n.now s.extent s.sheet.now c.if-sheet-ne8192.true

pub returns-in_err-early_refusal : goal.returns-in_err-early_refusal
returns-in_err-early_refusal c =
    let s = c.args in
    let p = err_from_is_err_and c.from_residual.result c.from_residual.ensures.1 in
    rw (p.1, p.2) (extent_early s.n.now s.extent s.sheet.now c.if-sheet-ne8192.false _ (c.in_err-early_refusal.ensures ∙ ap (list_early s.n.now) c.is_known.ensures) (number_there c.in_err-early_refusal.field-0.0))

pub returns-then-not-good_sheet : goal.returns-then-not-good_sheet
returns-then-not-good_sheet c =
    let s = c.args in
    let none = ap (list_early s.n.now) (sym c.is_known.ensures) ∙ sym c.early_refusal.ensures ∙ ap refusal_number c.in_ok-early_refusal.was in
    extent_bad s.n.now s.extent s.sheet.now c.if-sheet-ne8192.false none (sym c.good_sheet.ensures ∙ c.if-not-good_sheet.true)

pub returns : goal.returns
returns c =
    let s = c.args in
    let none = ap (list_early s.n.now) (sym c.is_known.ensures) ∙ sym c.early_refusal.ensures ∙ ap refusal_number c.in_ok-early_refusal.was in
    extent_good s.n.now s.extent s.sheet.now c.if-sheet-ne8192.false none (sym c.good_sheet.ensures ∙ c.if-not-good_sheet.false)
