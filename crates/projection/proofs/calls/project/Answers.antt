-- `projection::calls::project` meets its contract: the tests that led to each return decide the refusal, and past them
-- the rows are written. Assumes nothing.
use mathlib.Core.Path.{sym, ◌∙◌, ap}
use mathlib.Core.Bool.{not}
use lib.ListN.{length}
use Rattle.std.proofs.lemmas.Result.{err_from_is_err_and}
use Rattle.projection.proofs.ProjectionCall.{call_short, call_early, call_bad, call_missing, call_good}
use Rattle.projection.proofs.calls.project.Goals as goal

pub returns-in_default : goal.returns-in_default
returns-in_default c = let s = c.args in call_short s.n.now s.s s.t s.a s.sheet.now s.out.now c.in_default.ensures.cases

pub returns-in_err-early_refusal : goal.returns-in_err-early_refusal
returns-in_err-early_refusal c =
    let s = c.args in
    let p = err_from_is_err_and c.from_residual.result c.from_residual.ensures.1 in
    rw (p.1, p.2) (call_early s.n.now s.s s.t s.a s.sheet.now s.out.now c.in-Some.ensures.cases.long c.in_err-early_refusal.field-0.0 c.in_err-early_refusal.ensures)

pub returns-then-not-good_sheet : goal.returns-then-not-good_sheet
returns-then-not-good_sheet c =
    let s = c.args in
    let whole = c.in-Some.ensures.cases in
    rw (← whole.same)
    (call_bad s.n.now s.s s.t s.a c.in-Some.sheet.now s.out.now (ap length whole.same ∙ whole.long) (sym c.in_ok-early_refusal.ensures) (sym c.good_sheet.ensures ∙ c.if-not-good_sheet.true))

pub returns-then-is_none : goal.returns-then-is_none
returns-then-is_none c =
    let s = c.args in
    let whole = c.in-Some.ensures.cases in
    rw (← whole.same)
    (call_missing s.n.now s.s s.t s.a c.in-Some.sheet.now s.out.now (ap length whole.same ∙ whole.long) (sym c.in_ok-early_refusal.ensures)
    (sym c.good_sheet.ensures ∙ c.if-not-good_sheet.false) c.visit_at.result c.visit_at.ensures (c.is_none.ensures ∙ ap not c.if-is_none.true))

pub returns : goal.returns
returns c =
    let s = c.args in
    let whole = c.in-Some.ensures.cases in
    rw (← whole.same)
    (call_good s.n.now s.s s.t s.a c.in-Some.sheet.now s.out.now (ap length whole.same ∙ whole.long) (sym c.in_ok-early_refusal.ensures)
    (sym c.good_sheet.ensures ∙ c.if-not-good_sheet.false) c.visit_at.result c.visit_at.ensures (c.is_none.ensures ∙ ap not c.if-is_none.false) _ _ c.write_rows.ensures)
