-- `recheck::lists::run_end` meets its contract. The loop's invariant: at least `low` findings from i on are of the
-- station of the first, and the list has `high` of them. Assumes nothing.
use Prim.Native.Nat.{ℕ, ◌+◌, ◌*◌, ◌-◌, ◌/◌}
use mathlib.Core.Path.{◌≡◌, refl, ap}
use native.Mathlib.Omega.{arith}
use lib.ListN.{get_or}
use Rattle.recheck.proofs.RunLaws.{alike_up_to}
use Rattle.recheck.proofs.lists.run_end.Goals as goal

pub loop-low-init : goal.loop-low-init
loop-low-init c =
    let xs = c.args.list.now in
    let i = c.args.i in
    let first : i + 4 * 0 ≡ i = omega arith in (
      omega arith,
      omega (arith, c.requires.0),
      omega (arith, c.requires.0),
      alike_up_to (get_or xs i 0) xs i c.requires.2 c.requires.1 0 (omega (arith, c.requires.0)) refl (ap (λ (k : ℕ). get_or xs k 0) first),
    )

pub loop-low-preserved-then-list-i : goal.loop-low-preserved-then-list-i
loop-low-preserved-then-list-i c =
    let l = c.loop-low in
    let xs = c.args.list.now in
    let i = c.args.i in
    let middle = l.low + (l.high - l.low) / 2 in
    (omega arith, omega arith, l.invariant.2, alike_up_to (get_or xs i 0) xs i c.requires.2 c.requires.1 middle (omega arith) refl c.if-list-i.true)

pub loop-low-preserved : goal.loop-low-preserved
loop-low-preserved c = let l = c.loop-low in (l.invariant.0, omega arith, omega arith, l.invariant.3)

pub returns : goal.returns
returns c = let l = c.loop-low in (omega arith, omega arith, omega arith, l.invariant.3)
