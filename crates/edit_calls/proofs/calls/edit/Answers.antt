-- `edit_calls::calls::edit` meets its contract: the tests that led to each return decide the refusal, and the edit on
-- pages is the edit on the sheet or the division. Assumes nothing.
use mathlib.Core.Path.{refl, sym, ◌∙◌}
use native.Mathlib.Omega.{arith}
use Rattle.std.proofs.lemmas.Result.{err_from_is_err_and}
use Rattle.base.specs.RefusalNumbers.{number_of}
use Rattle.timetable.proofs.OutputLaws.{number_there}
use Rattle.edit_calls.proofs.CallTests.{call_not, call_short, call_early, call_late, call_made}
use Rattle.edit_calls.proofs.calls.edit.Goals as goal

pub returns-then-b-bytes : goal.returns-then-b-bytes
returns-then-b-bytes c =
    let s = c.args in
    let x = call_not s.layout s.n.now s.e s.b.now 5 (call_short s.layout s.n.now s.e s.b.now (λ q. c.if-b-bytes.true (q ∙ sym c.bytes.ensures))) (λ z. omega arith) in
    record { answer = sym x.0; after = sym x.1; err = refl }

pub returns-in_err-test_early : goal.returns-in_err-test_early
returns-in_err-test_early c =
    let s = c.args in
    let r = c.in_err-test_early.field-0.0 in
    let p = err_from_is_err_and c.from_residual.result c.from_residual.ensures.1 in
    let size = c.if-b-bytes.false ∙ c.bytes.ensures in
    let x = call_not s.layout s.n.now s.e s.b.now (number_of r) (call_early s.layout s.n.now s.e s.b.now size (number_of r) c.in_err-test_early.ensures (number_there r)) (number_there r) in
    record { answer = rw (p.1, p.2) (sym x.0); after = sym x.1; err = rw p.1 refl }

pub returns-in_err-test_sheets : goal.returns-in_err-test_sheets
returns-in_err-test_sheets c =
    let s = c.args in
    let r = c.in_err-test_sheets.field-0.0 in
    let b = c.from_residual-in_err-test_sheets in
    let p = err_from_is_err_and b.result b.ensures.1 in
    let size = c.if-b-bytes.false ∙ c.bytes.ensures in
    let x = call_not s.layout s.n.now s.e s.b.now (number_of r) (call_late s.layout s.n.now s.e s.b.now size c.in_ok-test_early.ensures (number_of r) c.in_err-test_sheets.ensures) (number_there r) in
    record { answer = rw (p.1, p.2) (sym x.0); after = sym x.1; err = rw p.1 refl }

pub returns : goal.returns
returns c =
    let s = c.args in
    let r = c.edit_pages in
    let size = c.if-b-bytes.false ∙ c.bytes.ensures in
    let x = call_made s.layout s.n.now s.e s.b.now size c.in_ok-test_early.ensures 0 c.in_ok-test_sheets.ensures refl in
    record { answer = r.ensures.answer ∙ x.0; after = r.ensures.after ∙ x.1; err = r.ensures.err }
