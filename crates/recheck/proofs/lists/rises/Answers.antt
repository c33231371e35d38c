-- `recheck::lists::rises` meets its contract. The loop's invariant: the list rises if it rises from the finding before
-- the next on; each turn compares that finding with the next. Assumes nothing.
use Rattle.std.proofs.Common.{arith, ◌≡◌, ◌+◌, ◌*◌, ◌-◌, ◌%◌, length, sym, ◌∙◌, eq-eqb, ne_eqb}
use Rattle.timetable.specs.Recheck.{list_rises}
use Rattle.recheck.proofs.RisingLaws.{rises_next, rises_over}
use Rattle.recheck.proofs.lists.rises.Goals as goal

pub returns-then-list-ne0 : goal.returns-then-list-ne0
unfolding list_rises
returns-then-list-ne0 c = rw (ne_eqb (length c.args.list.now % 4) 0 c.if-list-ne0.true)

pub returns-then-not-is_before : goal.returns-then-not-is_before
unfolding list_rises
returns-then-not-is_before c =
    let l = c.loop-i in
    let xs = c.args.list.now in
    sym (rw (eq-eqb (length xs % 4) 0 c.if-list-ne0.false) (l.invariant ∙ rises_next xs (4 * l.i) (omega arith) (omega arith)
    ∙ rw (sym c.is_before.ensures ∙ c.if-not-is_before.true)))

pub loop-i-preserved : goal.loop-i-preserved
loop-i-preserved c =
    let l = c.loop-i in
    let xs = c.args.list.now in
    let back : 4 * (l.i + 1) - 4 ≡ 4 * l.i = omega arith in
    rw back (l.invariant ∙ rises_next xs (4 * l.i) (omega arith) (omega arith)
    ∙ rw (sym c.is_before.ensures ∙ c.if-not-is_before.false))

pub returns : goal.returns
unfolding list_rises
returns c =
    let l = c.loop-i in
    let xs = c.args.list.now in
    sym (rw (eq-eqb (length xs % 4) 0 c.if-list-ne0.false) (l.invariant ∙ rises_over xs (4 * l.i - 4) (omega arith)))
