-- `fields::put::put_row` meets its contract: beyond the last place nothing is put. Assumes nothing.
use mathlib.Core.Path.{◌≡◌, refl}
use mathlib.Core.List.{List}
use native.Mathlib.Omega.{arith}
use Prim.Native.Nat.{ℕ, min}
use lib.ListN.{length, take}
use Rattle.network.proofs.RowsInUse.{used_rows}
use Rattle.fields.proofs.NumbersPut.{near_puts, far_puts}
use Rattle.fields.proofs.put.put_row.Goals as goal

-- the first thirteen, or all that there are
used_few : (row : List ℕ) (k : ℕ) → k ≡ min (length row) 13 → take 13 row ≡ take k row
used_few row k e = used_rows row 13 (length row) k refl (omega arith)

pub returns-then-at-le1000000000 : goal.returns-then-at-le1000000000
returns-then-at-le1000000000 c =
    let s = c.args in
    let w = c.put_all in
    near_puts s.at (take 13 s.row.now) s.out.now w.result w.new.out 39 (omega arith) (rw (used_few s.row.now c.min.result c.min.ensures) w.ensures)

pub returns-else-at-le1000000000 : goal.returns-else-at-le1000000000
returns-else-at-le1000000000 c = let s = c.args in far_puts s.at (take 13 s.row.now) s.out.now 39 (omega arith)
