-- `findings::calls::pair_refusal` meets its contract: each return by the tests that led there. Assumes
-- nothing.
use Rattle.std.proofs.Common.{refl, sym, ◌∙◌, ap}
use Rattle.std.proofs.lemmas.Result.{err_from_is_err_and}
use Rattle.base.specs.RefusalNumbers.{refusal_number}
use Rattle.findings.specs.Lists.{list_early}
use Rattle.timetable.proofs.OutputLaws.{number_there}
use Rattle.findings.proofs.ListCalls.{two_short, two_short_second, two-early, two-bad, two_good}
use Rattle.findings.proofs.calls.pair_refusal.Goals.{then-first-ne8192-via-then-first-ne8192, then-first-ne8192-via-else-first-ne8192+then-second-ne8192}
use Rattle.findings.proofs.calls.pair_refusal.Goals.{else-good_sheet-via-then-good_sheet+else-good_sheet-2, else-good_sheet-via-else-good_sheet}
use Rattle.findings.proofs.calls.pair_refusal.Goals as goal

pub returns-then-first-ne8192 : goal.returns-then-first-ne8192
returns-then-first-ne8192 c =
    let s = c.args in
    elim c.then-first-ne8192.branch [
      | then-first-ne8192-via-then-first-ne8192 w ↦ two_short s.n.now s.first.now s.second.now s.a s.b w.if-first-ne8192.true
      | then-first-ne8192-via-else-first-ne8192+then-second-ne8192 w ↦ two_short_second s.n.now s.first.now s.second.now s.a s.b w.if-first-ne8192.false w.if-second-ne8192.true
    ]

pub returns-in_err-early_refusal : goal.returns-in_err-early_refusal
returns-in_err-early_refusal c =
    let s = c.args in
    let p = err_from_is_err_and c.from_residual.result c.from_residual.ensures.1 in
    rw (p.1, p.2)
    (two-early s.n.now s.first.now s.second.now s.a s.b c.if-first-ne8192.false c.if-second-ne8192.false _ (c.in_err-early_refusal.ensures ∙ ap (list_early s.n.now) c.are_two.ensures) (number_there c.in_err-early_refusal.field-0.0))

pub returns-then-good_sheet-2 : goal.returns-then-good_sheet-2
returns-then-good_sheet-2 c =
    let s = c.args in
    let none = sym (ap refusal_number c.in_ok-early_refusal.was) ∙ c.early_refusal.ensures ∙ ap (list_early s.n.now) c.are_two.ensures in
    two_good s.n.now s.first.now s.second.now s.a s.b c.if-first-ne8192.false c.if-second-ne8192.false 0 none refl
    (rw (← c.good_sheet.ensures, c.if-good_sheet.true) (sym c.good_sheet-then-good_sheet.ensures ∙ c.if-good_sheet-2.true))

pub returns : goal.returns
returns c =
    let s = c.args in
    let none = sym (ap refusal_number c.in_ok-early_refusal.was) ∙ c.early_refusal.ensures ∙ ap (list_early s.n.now) c.are_two.ensures in
    two-bad s.n.now s.first.now s.second.now s.a s.b c.if-first-ne8192.false c.if-second-ne8192.false 0 none refl
    (elim c.else-good_sheet.branch [
      | else-good_sheet-via-then-good_sheet+else-good_sheet-2 w ↦ rw (← c.good_sheet.ensures, w.if-good_sheet.true) (sym w.good_sheet-then-good_sheet.ensures ∙ w.if-good_sheet-2.false)
      | else-good_sheet-via-else-good_sheet w ↦ rw (← c.good_sheet.ensures, w.if-good_sheet.false)
    ])
