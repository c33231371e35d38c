-- `strakewhip::turns::strakewhip_turn` meets its contract: a form that there is not is 3; else the answer of turning is
-- told. Assumes nothing.
use Prim.Native.Nat.{ℕ}
use mathlib.Core.Path.{◌≡◌, refl, ◌∙◌, ap}
use mathlib.Core.List.{List}
use borrow.Author.Tests.{eq-eqb, ne_eqb}
use Rattle.timetable.specs.Turning.{turn_reply, turn_after}
use Rattle.replies.specs.Replies.{plain, of_reply_in}
use Rattle.strakewhip.specs.Types.{NetworkForm}
use Rattle.strakewhip.specs.Calls.{form_of, turn_told, turn_left}
use Rattle.strakewhip.proofs.turns.strakewhip_turn.Goals as goal

module _ (k : ℕ) (file out : List ℕ) where
  unformed : ¬ (k ≡ 1) → (plain 3 ≡ turn_told (form_of k) file out) × (out ≡ turn_left (form_of k) file out)
  unfolding turn_told turn_left
  unformed h = rw (ne_eqb k 1 h) (refl, refl)

  formed : k ≡ 1 → (of_reply_in 1 (turn_reply NetworkForm.OneTime file out) ≡ turn_told (form_of k) file out)
      × (turn_after NetworkForm.OneTime file out ≡ turn_left (form_of k) file out)
  unfolding turn_told turn_left
  formed h = rw (eq-eqb k 1 h) (refl, refl)

pub returns-then-form-ne1 : goal.returns-then-form-ne1
returns-then-form-ne1 c =
    let s = c.args in
    let x = unformed s.form s.file.now s.out.now c.if-form-ne1.true in
    (c.plain.ensures ∙ x.0, x.1)

pub returns : goal.returns
returns c =
    let s = c.args in
    let t = c.turn.ensures in
    let x = formed s.form s.file.now s.out.now c.if-form-ne1.false in
    (c.of_turned.ensures ∙ ap (of_reply_in 1) t.0 ∙ x.0, t.1 ∙ x.1)
