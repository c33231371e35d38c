-- `projection::times::row_of` meets its contract: its fields are the row's, and the lateness fits 32 bits. Assumes
-- nothing.
use mathlib.Core.Path.{refl, ap, ◌∙◌}
use native.Mathlib.Omega.{arith}
use mir.Syntax.{w32}
use mir.Val.{to_z, of_z}
use Rattle.timetable.specs.Projection.{row}
use Rattle.projection.proofs.LateLaws.{late_kept}
use Rattle.projection.proofs.times.row_of.Goals as goal

pub returns : goal.returns
unfolding row
returns c =
    let s = c.args in
    let late = ap (λ z. to_z w32 (of_z w32 z)) c.lateness.ensures ∙ late_kept s.a s.v.arrival.0 c.requires (omega arith) in
    (rw (c.expected_departure.ensures.0, late) refl, omega arith, c.expected_departure.ensures.1)
