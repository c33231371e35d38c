-- `recheck::update::update_drafted` meets its contract: what stays and what is redone are as long as the list, so that
-- it does not fit; or what is redone stands in its room, and the list is woven. Assumes nothing.
use Prim.Native.Nat.{ℕ, ◌%◌}
use mathlib.Core.Path.{◌≡◌, refl, sym, ◌∙◌, ap}
use mathlib.Core.List.{List}
use native.Mathlib.Omega.{arith}
use lib.ListN.{length, take}
use Rattle.timetable.proofs.DraftsHandedOver.{draft_holds}
use Rattle.rule_tests.specs.between.Tests.{held}
use Rattle.sheet.proofs.FillLaws.{part_size}
use Rattle.builder.specs.between.Builder.{redone_numbers}
use Rattle.findings.proofs.ListCalls.{answers_as}
use Rattle.recheck.specs.between.Kept.{list_with}
use Rattle.recheck.proofs.UpdateLaws.{kept_no_longer, short_answers, redone_fours, can_weave, woven_answers}
use Rattle.recheck.proofs.update.update_drafted.Goals as goal

pub overflow_add-needed : goal.overflow_add-needed
overflow_add-needed c =
    let s = c.args in
    omega (arith, c.kept_length-kept.ensures, c.list_redone-redone.ensures.2, kept_no_longer s.marks s.list.now)

pub returns-then-out-needed : goal.returns-then-out-needed
returns-then-out-needed c =
    let s = c.args in
    let xs = redone_numbers s.n.now s.scope s.marks (held s.sheet.now) in
    let k = c.kept_length-kept in
    let w = c.list_redone-redone in
    short_answers s.marks s.list.now xs (redone_fours s.n.now s.scope s.marks (held s.sheet.now)) s.out.now k.result w.result (sym k.ensures) (omega (arith, w.ensures.0)) (omega arith)

pub fill-requires : goal.fill-requires
fill-requires c =
    let s = c.args in
    let xs = redone_numbers s.n.now s.scope s.marks (held s.sheet.now) in
    let k = c.kept_length-kept in
    let w = c.list_redone-redone in
    let size = part_size s.out.now k.result w.result (omega arith) in (
      size ∙ omega (arith, w.ensures.0),
      λ h. ap (λ (j : ℕ). take j w.new.out) size ∙ ap (take w.result) w.ensures.1 ∙ draft_holds xs s.draft.now w.result w.ensures.0 (omega (arith, h, size, w.auto.out)),
    )

pub weave-requires : goal.weave-requires
weave-requires c =
    let s = c.args in
    let k = c.kept_length-kept in
    let w = c.list_redone-redone in
    let f = c.fill in
    let all = redone_fours s.n.now s.scope s.marks (held s.sheet.now) in
    let just : length f.new.part ≡ w.result = ap length f.ensures ∙ omega (arith, w.ensures.0) in
    (c.requires, can_weave k.result w.result s.out.now f.new.part (omega arith) just s.marks s.list.now (sym k.ensures) (ap (λ (l : List ℕ). length l % 4) f.ensures ∙ all))

pub returns : goal.returns
returns c =
    let s = c.args in
    let k = c.kept_length-kept in
    let w = c.list_redone-redone in
    let f = c.fill in
    let all = redone_fours s.n.now s.scope s.marks (held s.sheet.now) in
    let just : length f.new.part ≡ w.result = ap length f.ensures ∙ omega (arith, w.ensures.0) in
    answers_as 0 0 _ (list_with s.marks s.list.now (redone_numbers s.n.now s.scope s.marks (held s.sheet.now))) s.out.now _ _ refl
    (ap (list_with s.marks s.list.now) f.ensures)
    (woven_answers k.result w.result s.out.now f.new.part (omega arith) just s.marks s.list.now (sym k.ensures) (ap (λ (l : List ℕ). length l % 4) f.ensures ∙ all) _ c.weave.ensures)
