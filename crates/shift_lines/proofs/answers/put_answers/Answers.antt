-- `shift_lines::answers::put_answers` meets its contract: what all edits and answers would print and count is what
-- those from i on still do. Assumes nothing.
use Prim.Native.Nat.{ℕ, suc, ◌+◌, ◌-◌, ◌*◌}
use mathlib.Core.Path.{◌≡◌, refl, sym, ◌∙◌}
use native.Mathlib.Omega.{arith}
use borrow.Author.Rules.{rules}
use Rattle.timetable.specs.Count.{zero_tally}
use Rattle.builder.proofs.FindingsPut.{left_start, left_on, left_end}
use Rattle.shift_lines.proofs.AnswerLines.{lines_next, next_taken, lines_none, tally_none}
use Rattle.shift_lines.proofs.answers.put_answers.Goals as goal

pub loop-i-init : goal.loop-i-init
unfolding zero_tally
loop-i-init c =
    let s = c.args in
    let all : s.count - 0 ≡ s.count = omega arith in
    (omega arith, refl, rw all c.requires.2, rw all (left_start 0 _ _), rw all)

pub answer_at-a-requires : goal.answer_at-a-requires
answer_at-a-requires c =
    (omega (arith, c.loop-i-test.true, c.requires.0), omega (arith, c.loop-i-test.true, c.requires.1))

pub loop-i-preserved : goal.loop-i-preserved
loop-i-preserved c =
    let s = c.args in
    let l = c.loop-i in
    let h = c.loop-i-test.true in
    let k : ℕ = s.count - (l.i + 1) in
    let step : s.count - l.i ≡ suc k = omega (arith, h) in
    let t = rw step at l.invariant.2 in
    let a = c.answer_at-a in
    let w = c.put_answer-at in
    let y = c.count_next.ensures in
    let x = next_taken s.answers.now k l.i s.file.now l.cursor.at _ refl t in (
      omega (arith, w.ensures.2, l.invariant.0),
      w.auto.out ∙ l.invariant.1,
      rw y.1 x.0,
      left_on 0 _ _ l.at w.result 68 _ _ _ l.out _ (lines_next s.answers.now k l.i (l.i + 1)) (rw step at l.invariant.3) (rw a.ensures at w.ensures),
      rw (y.0, y.1, a.ensures) ((rw step at l.invariant.4) ∙ x.1 l.tally),
    )

pub returns : goal.returns
returns c =
    let s = c.args in
    let l = c.loop-i in
    let none : s.count - l.i ≡ 0 = omega (arith, c.loop-i-test.false) in (
      left_end 0 _ _ l.at (68 * s.count) _ l.out (lines_none s.answers.now l.i (l.i + 1)) (rw none at l.invariant.3) (omega (arith, l.invariant.0, l.auto.i-end)),
      sym ((rw none at l.invariant.4) ∙ tally_none s.answers.now l.i s.file.now l.cursor.at l.tally),
    )
