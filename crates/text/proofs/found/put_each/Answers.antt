-- `text::found::put_each` meets its contract: what all findings would write is what those from i on still write, from
-- the place reached. Assumes nothing.
use Prim.Native.Nat.{ℕ}
use mathlib.Core.Path.{refl, sym, ◌∙◌, ap}
use native.Mathlib.Omega.{arith}
use mathlib.Core.List.{List}
use lib.ListN.{length}
use Rattle.timetable.specs.Outputs.{put}
use Rattle.text.specs.between.Lines.{of_areas, findings_text}
use Rattle.text.proofs.FourByFour.{found_on, found_length, found_over}
use Rattle.text.proofs.found.put_each.Goals as goal

pub loop-i-init : goal.loop-i-init
loop-i-init c = (omega arith, refl, refl, refl)

pub put_finding-next-requires : goal.put_finding-next-requires
put_finding-next-requires c = (omega arith, omega arith, omega arith)

pub loop-i-preserved : goal.loop-i-preserved
loop-i-preserved c =
    let s = c.args in
    let l = c.loop-i in
    let w = c.put_finding-next in
    let t = c.loop-i-test.true in
    let areas = of_areas s.h.one s.h.other in (
      omega (arith, w.ensures.2),
      w.auto.out ∙ l.invariant.1,
      l.invariant.2 ∙ omega (arith, w.ensures.0, found_length s.h.letter areas s.numbers.now s.count c.requires.2 l.i t),
      rw (w.ensures.1, w.ensures.0) (l.invariant.3 ∙ found_on s.h.letter areas s.numbers.now s.count c.requires.2 l.i l.next l.out t),
    )

pub returns : goal.returns
unfolding put findings_text
returns c =
    let s = c.args in
    let l = c.loop-i in
    let none = found_over s.h.letter (of_areas s.h.one s.h.other) s.numbers.now s.count c.requires.2 l.i c.loop-i-test.false in
    (sym (omega (arith, l.invariant.2, ap length none)), sym (l.invariant.3 ∙ ap (λ (x : List ℕ). put l.next x l.out) none), omega (arith, l.invariant.0))
