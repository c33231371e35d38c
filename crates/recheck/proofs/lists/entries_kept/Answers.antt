-- `recheck::lists::entries_kept` meets its contract. The loop's invariant: what stays from the start on is what was
-- counted and what stays from the next finding on. Assumes nothing.
use Rattle.std.proofs.Common.{arith, ◌≡◌, ◌≤◌, ◌+◌, ◌*◌, sym, ◌∙◌, length}
use Rattle.recheck.proofs.FourLaws.{length_skip, length_stay}
use Rattle.recheck.proofs.lists.entries_kept.Goals as goal
use Rattle.recheck.proofs.lists.entries_kept.Goals.{then-not-is_redone, else-not-is_redone}

pub loop-i-init : goal.loop-i-init
loop-i-init c = let s = c.args in let start : s.start + 4 * 0 ≡ s.start = omega arith in rw start (omega arith, omega arith)

pub loop-i-preserved : goal.loop-i-preserved
loop-i-preserved c =
    let l = c.loop-i in
    let s = c.args in
    let xs = s.list.now in
    let at = s.start + 4 * l.i in
    let more : at + 4 ≤ length xs = omega (arith, c.requires) in
    let next : s.start + 4 * (l.i + 1) ≡ at + 4 = omega arith in
    elim c.if-not-is_redone.branch [
      | then-not-is_redone w ↦ rw next (omega (arith, w.kept-is), omega (arith, w.kept-is, length_stay s.marks at xs more (sym c.is_redone.ensures ∙ w.if-not-is_redone.true)))
      | else-not-is_redone w ↦ rw next (omega (arith, w.kept-is), omega (arith, w.kept-is, length_skip s.marks at xs more (sym c.is_redone.ensures ∙ w.if-not-is_redone.false)))
    ]

pub returns : goal.returns
returns c =
    let l = c.loop-i in
    let s = c.args in
    let met : s.start + 4 * l.i ≡ s.end = omega (arith, c.requires) in
    rw met at l.invariant
