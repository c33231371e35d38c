-- `text::rows::put_each` meets its contract: what all rows would write is what those from i on still write, from the
-- place reached. Assumes nothing.
use Prim.Native.Nat.{ℕ}
use mathlib.Core.Path.{refl, sym, ◌∙◌, ap}
use mathlib.Core.List.{List}
use native.Mathlib.Omega.{arith}
use lib.ListN.{length}
use Rattle.timetable.specs.Outputs.{put}
use Rattle.text.proofs.RowLines.{rows_on, rows_length, rows_over}
use Rattle.text.proofs.rows.put_each.Goals as goal

pub loop-i-init : goal.loop-i-init
loop-i-init c = (omega arith, refl, refl, refl)

pub put_row-next-requires : goal.put_row-next-requires
put_row-next-requires c = (omega arith, omega arith, omega arith)

pub loop-i-preserved : goal.loop-i-preserved
loop-i-preserved c =
    let s = c.args in
    let l = c.loop-i in
    let w = c.put_row-next in
    let h = c.loop-i-test.true in (
      omega (arith, w.ensures.2),
      w.auto.out ∙ l.invariant.1,
      l.invariant.2 ∙ omega (arith, w.ensures.0, rows_length s.s.0 s.t.0 s.rows.now s.count c.requires.2 l.i h),
      rw (w.ensures.1, w.ensures.0) (l.invariant.3 ∙ rows_on s.s.0 s.t.0 s.rows.now s.count c.requires.2 l.i l.next l.out h),
    )

pub returns : goal.returns
unfolding put
returns c =
    let s = c.args in
    let l = c.loop-i in
    let none = rows_over s.s.0 s.t.0 s.rows.now s.count c.requires.2 l.i c.loop-i-test.false in (
      sym (omega (arith, l.invariant.2, ap length none)),
      sym (l.invariant.3 ∙ ap (λ (x : List ℕ). put l.next x l.out) none),
      omega (arith, l.invariant.0, c.requires.1),
    )
