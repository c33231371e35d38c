-- `edit_calls::run_edits` meets its contract: a run of all edits from the start is a run of those from i on, on what
-- the first i left; and so are the answers. Assumes nothing.
use Prim.Native.Nat.{ℕ, suc, ◌+◌, ◌-◌, ◌*◌}
use mathlib.Core.Path.{◌≡◌, refl, sym, ◌∙◌, ap}
use mathlib.Core.List.{List, []}
use native.Mathlib.Omega.{arith}
use Rattle.timetable.specs.Outputs.{put}
use Rattle.edit_calls.specs.Types.{Edit}
use Rattle.edit_calls.specs.Lists.{answers_of, division_of}
use Rattle.edit_calls.specs.between.Taken.{edits_at}
use Rattle.edit_calls.proofs.TakenLaws.{rest_read, not_stopped, none_taken, division_none, answers_none, turn_division, turn_answers}
use Rattle.edit_calls.proofs.run_edits.Goals as goal

pub loop-i-init : goal.loop-i-init
loop-i-init c =
    let s = c.args in
    let all : s.count - 0 ≡ s.count = omega arith in
    (omega arith, refl, refl, rw all c.requires.0.2, rw all, rw all, c.requires.1)

pub returns-in-Err : goal.returns-in-Err
returns-in-Err c =
    let s = c.args in
    let l = c.loop-i in
    let step : s.count - l.i ≡ suc (s.count - (l.i + 1)) = omega arith in
    absurd (not_stopped s.form (s.count - (l.i + 1)) s.file.now l.cursor.at _ _ (sym c.in-Err.ensures) (rw step at l.invariant.3))

pub edit_once-a-requires : goal.edit_once-a-requires
edit_once-a-requires c = c.loop-i.invariant.6

pub put_answer-requires : goal.put_answer-requires
put_answer-requires c =
    let l = c.loop-i in
    (omega (arith, l.invariant.2, c.requires.0.0), omega (arith, c.requires.0.1))

pub loop-i-preserved : goal.loop-i-preserved
loop-i-preserved c =
    let s = c.args in
    let l = c.loop-i in
    let x = sym c.in-Ok.ensures in
    let step : s.count - l.i ≡ suc (s.count - (l.i + 1)) = omega arith in
    let t = rw step at l.invariant.3 in
    let e = c.edit_once-a in
    let a = c.put_answer in
    let w = c.answer_from.ensures ∙ e.ensures.0 in (
      omega arith,
      e.auto.division ∙ l.invariant.1,
      a.auto.out ∙ l.invariant.2,
      rest_read s.form (s.count - (l.i + 1)) s.file.now l.cursor.at _ _ x t,
      rw e.ensures.1 (sym (turn_division s.form s.n.now s.file.now l.cursor.at (s.count - (l.i + 1)) _ _ x t l.division l.out l.i) ∙ (rw step at l.invariant.4)),
      rw (a.ensures, e.ensures.1, w) (sym (turn_answers s.form s.n.now s.file.now l.cursor.at (s.count - (l.i + 1)) _ _ x t l.division l.out l.i) ∙ (rw step at l.invariant.5)),
      e.ensures.2,
    )

pub returns : goal.returns
unfolding put
returns c =
    let s = c.args in
    let l = c.loop-i in
    let none : s.count - l.i ≡ 0 = omega arith in
    let last : edits_at s.form (s.count - l.i) s.file.now l.cursor.at ≡ [] = ap (λ (j : ℕ). edits_at s.form j s.file.now l.cursor.at) none ∙ none_taken s.form s.file.now l.cursor.at in (
      sym (division_none s.n.now l.division) ∙ ap (λ (es : List Edit). division_of s.n.now es l.division) (sym last) ∙ l.invariant.4,
      ap (λ (as' : List ℕ). put (2 * l.i) as' l.out) (sym (answers_none s.n.now l.division) ∙ ap (λ (es : List Edit). answers_of s.n.now es l.division) (sym last)) ∙ l.invariant.5,
    )
