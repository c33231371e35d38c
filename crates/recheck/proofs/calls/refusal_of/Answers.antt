-- `recheck::calls::refusal_of` meets its contract: the tests that led to each return decide the refusal. Assumes
-- nothing.
use Rattle.std.proofs.Common.{refl, sym, ◌∙◌, ap, length, eq-eqb, ne_eqb}
use Rattle.std.proofs.lemmas.Result.{err_from_is_err_and}
use Rattle.base.specs.RefusalNumbers.{number_of, refusal_number}
use Rattle.network.specs.Networks.{network_refusal}
use Rattle.timetable.proofs.RefusalLaws.{call_short}
use Rattle.timetable.proofs.OutputLaws.{number_there}
use Rattle.actions.specs.Early.{unknown_refusal}
use Rattle.recheck.specs.between.Extents.{extent_own}
use Rattle.recheck.proofs.CallLaws.{refused_early, refused-later, refused-late, list_fine, list_wrong, extent_refused, err_told, ok_told}
use Rattle.recheck.proofs.calls.refusal_of.Goals as goal

pub returns-then-sheet-ne8192 : goal.returns-then-sheet-ne8192
returns-then-sheet-ne8192 c =
    let s = c.args in
    sym (call_short _ _ _ _ (ne_eqb (length s.sheet.now) 8192 c.if-sheet-ne8192.true)) ∙ extent_refused s.n.now s.e s.extent s.sheet.now s.list.now

pub returns-then-is_err : goal.returns-then-is_err
returns-then-is_err c =
    let s = c.args in
    let fit = eq-eqb (length s.sheet.now) 8192 c.if-sheet-ne8192.false in
    let some = err_told c.in_order.result (sym c.is_err.ensures.value ∙ c.if-is_err.true) in
    rw (c.own_refusal-own.ensures, c.check.ensures, c.unknown_refusal-unknown.ensures) at c.in_order-then-is_err.ensures
    ∙ sym (refused_early (extent_own s.extent s.e) (network_refusal s.n.now) (unknown_refusal s.n.now s.e) _ fit _ _ (λ z. some (rw (c.own_refusal-own.ensures, c.unknown_refusal-unknown.ensures) at c.in_order.ensures ∙ z)))
    ∙ extent_refused s.n.now s.e s.extent s.sheet.now s.list.now

pub returns-in_err-sheet_refusal : goal.returns-in_err-sheet_refusal
returns-in_err-sheet_refusal c =
    let s = c.args in
    let p = err_from_is_err_and c.from_residual.result c.from_residual.ensures.1 in
    let r = c.in_err-sheet_refusal.field-0.0 in
    let fit = eq-eqb (length s.sheet.now) 8192 c.if-sheet-ne8192.false in
    let none = sym (rw (c.own_refusal-own.ensures, c.unknown_refusal-unknown.ensures) at c.in_order.ensures) ∙ ok_told c.in_order.result (sym c.is_err.ensures.value ∙ c.if-is_err.false) in
    rw (p.1, p.2)
    (sym (refused-later (extent_own s.extent s.e) (network_refusal s.n.now) (unknown_refusal s.n.now s.e) _ fit _ _ none (number_of r) c.in_err-sheet_refusal.ensures (number_there r))
    ∙ extent_refused s.n.now s.e s.extent s.sheet.now s.list.now)

pub returns-then-not-rises : goal.returns-then-not-rises
returns-then-not-rises c =
    let s = c.args in
    let fit = eq-eqb (length s.sheet.now) 8192 c.if-sheet-ne8192.false in
    let none = sym (rw (c.own_refusal-own.ensures, c.unknown_refusal-unknown.ensures) at c.in_order.ensures) ∙ ok_told c.in_order.result (sym c.is_err.ensures.value ∙ c.if-is_err.false) in
    let k = sym (ap refusal_number c.in_ok-sheet_refusal.was) ∙ c.sheet_refusal.ensures in
    sym (refused-late (extent_own s.extent s.e) (network_refusal s.n.now) (unknown_refusal s.n.now s.e) _ fit _ _ none 0 k refl ∙ list_wrong s.list.now (sym c.rises.ensures ∙ c.if-not-rises.true))
    ∙ extent_refused s.n.now s.e s.extent s.sheet.now s.list.now

pub returns : goal.returns
returns c =
    let s = c.args in
    let fit = eq-eqb (length s.sheet.now) 8192 c.if-sheet-ne8192.false in
    let none = sym (rw (c.own_refusal-own.ensures, c.unknown_refusal-unknown.ensures) at c.in_order.ensures) ∙ ok_told c.in_order.result (sym c.is_err.ensures.value ∙ c.if-is_err.false) in
    let k = sym (ap refusal_number c.in_ok-sheet_refusal.was) ∙ c.sheet_refusal.ensures in
    sym (refused-late (extent_own s.extent s.e) (network_refusal s.n.now) (unknown_refusal s.n.now s.e) _ fit _ _ none 0 k refl ∙ list_fine s.list.now (sym c.rises.ensures ∙ c.if-not-rises.false))
    ∙ extent_refused s.n.now s.e s.extent s.sheet.now s.list.now
