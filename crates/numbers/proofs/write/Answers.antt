-- `numbers::write` meets its contract: each case stores the groups of the number over the head. Assumes nothing.
use mathlib.Core.Path.{sym}
use native.Mathlib.Omega.{arith}
use lib.ListN.{length-set}
use Rattle.numbers.proofs.GroupLaws.{width_one, width_two, width_three, width_more, unwritten, put_one, put_two, put_three}
use Rattle.numbers.proofs.write.Goals as goal

pub returns-then-out-w : goal.returns-then-out-w
returns-then-out-w c = (c.width_of-w.ensures, sym (unwritten c.args.n c.args.out.now (omega (arith, c.width_of-w.ensures))))

pub bounds-out-0 : goal.bounds-out-0
bounds-out-0 c = omega (arith, c.width_of-w.ensures, width_one c.args.n c.if-n-lt128.true)

pub returns-then-n-lt128 : goal.returns-then-n-lt128
returns-then-n-lt128 c =
    let h = width_one c.args.n c.if-n-lt128.true in
    (c.width_of-w.ensures, rw c.last_group.ensures (put_one c.args.n c.args.out.now c.if-n-lt128.true (omega (arith, c.width_of-w.ensures))))

pub bounds-out-0-2 : goal.bounds-out-0-2
bounds-out-0-2 c = omega (arith, c.width_of-w.ensures, width_more c.args.n c.if-n-lt128.false (omega arith))

pub bounds-out-1 : goal.bounds-out-1
bounds-out-1 c = simp length-set (omega (arith, c.width_of-w.ensures, width_two c.args.n c.if-n-lt128.false c.if-n-lt128-2.true))

pub returns-then-n-lt128-2 : goal.returns-then-n-lt128-2
returns-then-n-lt128-2 c =
    let h = width_two c.args.n c.if-n-lt128.false c.if-n-lt128-2.true in (
      c.width_of-w.ensures,
      rw (c.last_group-then-n-lt128-2.ensures, c.group_before.ensures) (put_two c.args.n c.args.out.now c.if-n-lt128.false c.if-n-lt128-2.true (omega (arith, c.width_of-w.ensures))),
    )

pub bounds-out-1-2 : goal.bounds-out-1-2
bounds-out-1-2 c = simp length-set (omega (arith, c.width_of-w.ensures, width_three c.args.n c.if-n-lt128.false c.if-n-lt128-2.false (omega arith)))

pub bounds-out-2 : goal.bounds-out-2
bounds-out-2 c = simp length-set (omega (arith, c.width_of-w.ensures, width_three c.args.n c.if-n-lt128.false c.if-n-lt128-2.false (omega arith)))

pub returns : goal.returns
returns c =
    let h = width_three c.args.n c.if-n-lt128.false c.if-n-lt128-2.false (omega arith) in (
      c.width_of-w.ensures,
      rw (c.last_group-2.ensures, c.group_before-2.ensures, c.group_before.ensures)
          (put_three c.args.n c.args.out.now c.if-n-lt128.false c.if-n-lt128-2.false (omega arith) (omega (arith, c.width_of-w.ensures))),
    )
