-- `projection::journey::put_row` meets its contract: the four numbers are written in turn. Assumes nothing.
use native.Mathlib.Omega.{arith}
use mir.Syntax.{w32}
use mir.Facts.{to_z_pos, to_z-of_z}
use Rattle.projection.proofs.FourNumbers.{put_four}
use Rattle.projection.proofs.journey.put_row.Goals as goal

pub returns : goal.returns
returns c =
    let s = c.args in
    let p = c.requires in
    put_four s.r s.at s.out.now _ _ _ _ _ _ _ _
    (to_z_pos w32 {n = s.r.station.0} (omega arith)) (to_z_pos w32 {n = s.r.arrival} (omega (arith, p.1))) (to_z_pos w32 {n = s.r.departure} (omega (arith, p.1)))
    (to_z-of_z {w = w32} {z = s.r.lateness} (record { sfits = omega (arith) }))
    c.put_number.ensures
    c.put_number-2.ensures
    c.put_number-3.ensures
    c.put_number-4.ensures
