-- `findings::calls::write_drafted` meets its contract: the draft holds the list and is handed over; or it is too short
-- for it, and the count is the needed length. Assumes nothing.
use native.Mathlib.Omega.{arith}
use mathlib.Core.Path.{refl, ◌∙◌, ap}
use lib.ListN.{take}
use Rattle.rule_tests.specs.between.Tests.{held}
use Rattle.rule_tests.proofs.HeldLaws.{held_is}
use Rattle.builder.specs.between.Builder.{all_numbers}
use Rattle.findings.proofs.ListCalls.{too_short, written, answers_as}
use Rattle.timetable.proofs.DraftsHandedOver.{draft_holds}
use Rattle.findings.proofs.calls.write_drafted.Goals as goal

pub returns-then-needed-draft : goal.returns-then-needed-draft
returns-then-needed-draft c =
    let s = c.args in
    let w = c.list_all-needed in
    let xs = all_numbers s.n.now s.scope (held s.sheet.now) in
    rw (← held_is s.sheet.now c.requires)
    (
    answers_as 0 0 _ xs s.out.now _ _ refl
    (ap (take w.result) w.ensures.1 ∙ draft_holds xs s.draft.now w.result w.ensures.0 (omega (arith, c.if-needed-draft.true, w.auto.out)))
    c.hand_over.ensures
    )

pub returns-then-out-needed : goal.returns-then-out-needed
returns-then-out-needed c =
    let s = c.args in
    let w = c.list_all-needed in
    rw (← held_is s.sheet.now c.requires)
    (too_short (all_numbers s.n.now s.scope (held s.sheet.now)) s.out.now w.result w.ensures.0 c.if-out-needed.true)

pub returns : goal.returns
returns c =
    let s = c.args in
    let w = c.list_all-needed in
    rw (← held_is s.sheet.now c.requires)
    (written (all_numbers s.n.now s.scope (held s.sheet.now)) s.out.now w.result _ w.ensures.0 c.if-out-needed.false c.list_all.ensures.1)
