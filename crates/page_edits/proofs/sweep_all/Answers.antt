-- `page_edits::sweep_all` meets its contract: the loop has changed the pages of the first rows and counted their visits:
-- what is left to do and to count is that of the rows from there on. Assumes nothing.
use Prim.Native.Nat.{ℕ, ◌+◌}
use mathlib.Core.Path.{◌≡◌, sym, ◌∙◌, ap}
use native.Mathlib.Omega.{arith}
use borrow.Author.Rules.{rules}
use mathlib.Core.List.{map}
use lib.ListN.{length, drop}
use Rattle.page_edits.specs.between.PageEdits.{places, swept}
use Rattle.page_edits.proofs.RowSteps.{spot, places_are, rows_few, swept_on, sweep_on, swept_over, sweep_over}
use Rattle.page_edits.proofs.sweep_all.Goals as goal

pub overflow_add-removed : goal.overflow_add-removed
overflow_add-removed c =
    let s = c.args in
    let rows = c.station_rows-row-items in
    let many : length s.n.now.stations ≡ 16 = search rules in
    let few = rows_few s.n.now many in
    let are = ap length rows.ensures in
    let i = c.loop-row-test.true in
    let l = c.loop-row.invariant.counted in
    let w = c.sweep_one-removed.ensures.2 in
    omega (arith, few, are, i, l, w)

pub loop-row-preserved : goal.loop-row-preserved
loop-row-preserved c =
    let s = c.args in
    let l = c.loop-row in
    let rows = c.station_rows-row-items.result.now in
    let g = spot s.layout s.n.now in
    let w = c.sweep_one-removed.ensures in
    let p = c.place_of.ensures.0 in
    let here = c.loop-row-test.true in
    let told : swept s.t (map g (drop l.row-index rows)) l.b ≡ c.sweep_one-removed.result + swept s.t (map g (drop (l.row-index + 1) rows)) c.sweep_one-removed.new.b
    = rw (w.0, w.1, p) (swept_on rows l.row-index g s.t l.b here) in
    record {
      counted = omega (arith, w.2);
      removed = omega (arith, l.invariant.removed, told);
      changed = l.invariant.changed ∙ rw (w.1, p) (sweep_on rows l.row-index g s.t l.b here);
    }

pub returns : goal.returns
returns c =
    let s = c.args in
    let l = c.loop-row in
    let rows = c.station_rows-row-items in
    let g = spot s.layout s.n.now in
    let end = c.loop-row-test.false in
    let all : places s.layout s.n.now ≡ map g rows.result.now = places_are s.layout s.n.now ∙ ap (map g) (sym rows.ensures) in
    let none = swept_over rows.result.now l.row-index g s.t l.b end in
    rw all (
      sym (l.invariant.removed ∙ ap (λ (x : ℕ). l.removed + x) none ∙ omega arith),
      sym (l.invariant.changed ∙ sweep_over rows.result.now l.row-index g s.t l.b end),
    )
