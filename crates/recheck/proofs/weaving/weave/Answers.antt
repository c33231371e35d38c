-- `recheck::weaving::weave` meets its contract. The loop's invariant: what is written and what is still to be woven
-- make up the goal, and the rest is as it was (`Weaves`); each turn is one of its laws. Assumes nothing.
use mathlib.Core.Path.{refl, sym, ◌∙◌, ap}
use native.Mathlib.Omega.{arith}
use lib.ListN.{length}
use Rattle.timetable.proofs.BuffersFilled.{put_length}
use Rattle.recheck.specs.between.Kept.{four_at, part, woven}
use Rattle.recheck.proofs.WeaveLaws.{first_left, room-left, weaves_begin, weaves_skip, weaves-move, weaves-put, weaves_end}
use mathlib.Core.List.{List}
use Prim.Native.Nat.{ℕ}
use Rattle.timetable.specs.Outputs.{put}
use Rattle.recheck.proofs.FourLaws.{four_part, four_length}
use Rattle.recheck.proofs.RunsWoven.{run_size, weaves_skip_run, weaves_copy_run}
use Rattle.recheck.proofs.weaving.weave.Goals as goal

pub loop-i-init : goal.loop-i-init
loop-i-init c = (omega arith, refl, weaves_begin _ _ _ _ _ c.requires.1, refl)

pub loop-i-preserved-then-level-eq2 : goal.loop-i-preserved-then-level-eq2
loop-i-preserved-then-level-eq2 c =
    let l = c.loop-i in
    let run = c.run_end-i.ensures in
    (run.1, l.invariant.1, weaves_skip_run l.invariant.2 c.run_end-i.result run (sym c.level-level.ensures ∙ c.if-level-eq2.true), omega (arith, run.0, run.2, l.invariant.3))

pub put_numbers-requires : goal.put_numbers-requires
put_numbers-requires c =
    let run = c.run_end-stop.ensures in
    let w = c.loop-i.invariant.2 in
    let room = (weaves_copy_run w c.run_end-stop.result run c.level-level.result c.level-level.ensures (sym c.run_first.ensures ∙ c.if-run_first.true)).0 in
    omega (arith, run_size c.args.list.now c.loop-i.i c.run_end-stop.result run, room, w.short, w.fits)

pub loop-i-preserved-then-run_first : goal.loop-i-preserved-then-run_first
loop-i-preserved-then-run_first c =
    let l = c.loop-i in
    let xs = c.args.list.now in
    let done = c.put_numbers in (
      c.run_end-stop.ensures.1,
      ap length done.ensures ∙ put_length l.to (part l.i c.run_end-stop.result xs) l.out ∙ l.invariant.1,
      rw done.ensures (weaves_copy_run c.loop-i.invariant.2 c.run_end-stop.result c.run_end-stop.ensures c.level-level.result c.level-level.ensures (sym c.run_first.ensures ∙ c.if-run_first.true)).1,
      omega (arith, c.run_end-stop.ensures.0, c.run_end-stop.ensures.2, l.invariant.3),
    )

pub loop-i-preserved-then-is_redone : goal.loop-i-preserved-then-is_redone
loop-i-preserved-then-is_redone c =
    let l = c.loop-i in
    (omega arith, l.invariant.1, weaves_skip l.invariant.2 (omega arith) (sym c.is_redone.ensures ∙ c.if-is_redone.true), omega (arith, l.invariant.3))

pub move_four-requires : goal.move_four-requires
move_four-requires c =
    let more = first_left c.loop-i.from c.args.end c.loop-i.out c.loop-i.i c.args.list.now (sym c.comes_first.ensures ∙ c.if-comes_first.true) in
    let w = c.loop-i.invariant.2 in
    (omega (arith, more, w.fits, w.room), omega (arith, more, w.fits))

pub loop-i-smaller-then-comes_first : goal.loop-i-smaller-then-comes_first
loop-i-smaller-then-comes_first c = omega (arith, first_left c.loop-i.from c.args.end c.loop-i.out c.loop-i.i c.args.list.now (sym c.comes_first.ensures ∙ c.if-comes_first.true))

pub loop-i-preserved-then-comes_first : goal.loop-i-preserved-then-comes_first
loop-i-preserved-then-comes_first c =
    let l = c.loop-i in
    let moved = c.move_four in (
      l.invariant.0,
      ap length moved.ensures ∙ put_length l.to (four_at l.from l.out) l.out ∙ l.invariant.1,
      rw moved.ensures (weaves-move l.invariant.2 (omega arith) (sym c.is_redone.ensures ∙ c.if-is_redone.false) (sym c.comes_first.ensures ∙ c.if-comes_first.true)),
      l.invariant.3,
    )

pub put_numbers-requires-else-comes_first : goal.put_numbers-requires-else-comes_first
put_numbers-requires-else-comes_first c =
    let w = c.loop-i.invariant.2 in
    let room = room-left w (omega arith) (sym c.is_redone.ensures ∙ c.if-is_redone.false) in
    omega (arith, ap length (four_part c.loop-i.i c.args.list.now (omega arith)), four_length c.loop-i.i c.args.list.now, room, w.short, w.fits)

pub loop-i-preserved : goal.loop-i-preserved
loop-i-preserved c =
    let l = c.loop-i in
    let s = c.args in
    let done = c.put_numbers-else-comes_first.ensures ∙ ap (λ (xs : List ℕ). put l.to xs l.out) (four_part l.i s.list.now (omega arith)) in (
      omega arith,
      ap length done ∙ put_length l.to (four_at l.i s.list.now) l.out ∙ l.invariant.1,
      rw done (weaves-put l.invariant.2 (omega arith) (sym c.is_redone.ensures ∙ c.if-is_redone.false) (sym c.comes_first.ensures ∙ c.if-comes_first.false)),
      omega (arith, l.invariant.3),
    )

pub returns : goal.returns
unfolding woven
returns c = weaves_end c.loop-i.invariant.2 (omega arith)
