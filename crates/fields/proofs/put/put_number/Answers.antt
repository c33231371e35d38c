-- `fields::put::put_number` meets its contract: beyond the last place nothing is put. Assumes nothing.
use mathlib.Core.List.{[], ◌∷◌}
use native.Mathlib.Omega.{arith}
use Rattle.fields.proofs.NumbersPut.{one_puts, far_puts}
use Rattle.fields.proofs.put.put_number.Goals as goal

pub returns-then-at-le1000000000 : goal.returns-then-at-le1000000000
returns-then-at-le1000000000 c =
    let s = c.args in
    let w = c.put_bytes in
    one_puts s.at s.x s.out.now w.result w.new.out 3 (omega arith) w.ensures

pub returns-else-at-le1000000000 : goal.returns-else-at-le1000000000
returns-else-at-le1000000000 c = let s = c.args in far_puts s.at (s.x ∷ []) s.out.now 3 (omega arith)
