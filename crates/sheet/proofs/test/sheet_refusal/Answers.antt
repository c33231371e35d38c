-- `sheet::test::sheet_refusal` meets its contract: the network's refusal comes first. Assumes nothing.
use Rattle.std.proofs.Common.{sym, ◌∙◌, ap}
use Rattle.std.proofs.lemmas.Result.{err_from_is_err_and}
use Rattle.base.specs.RefusalNumbers.{refusal_number}
use Rattle.network.specs.Networks.{network_refusal}
use Rattle.timetable.proofs.OutputLaws.{number_there}
use Rattle.timetable.proofs.RefusalLaws.{or_first, or_later}
use Rattle.sheet.proofs.test.sheet_refusal.Goals as goal

pub returns-in_err-check : goal.returns-in_err-check
returns-in_err-check c =
    let p = err_from_is_err_and c.from_residual.result c.from_residual.ensures.1 in
    let r = c.in_err-check.field-0.0 in
    rw (p.1, p.2) (c.in_err-check.ensures ∙ sym (or_first (network_refusal c.args.network.now) _ (λ z. number_there r (c.in_err-check.ensures ∙ z))))

pub returns-then-not-sheet_under : goal.returns-then-not-sheet_under
returns-then-not-sheet_under c =
    sym (or_later (network_refusal c.args.network.now) _ (sym c.check.ensures ∙ ap refusal_number c.in_ok-check.was) ∙ rw (← c.sheet_under.ensures, c.if-not-sheet_under.true))

pub returns : goal.returns
returns c =
    sym (or_later (network_refusal c.args.network.now) _ (sym c.check.ensures ∙ ap refusal_number c.in_ok-check.was) ∙ rw (← c.sheet_under.ensures, c.if-not-sheet_under.false))
