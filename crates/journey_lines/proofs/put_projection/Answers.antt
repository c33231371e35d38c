-- `journey_lines::put_projection` meets its contract: the call is not refused and its rows fit, so the rows
-- that it wrote are printed. Assumes nothing.
use mathlib.Core.Path.{refl, ◌∙◌}
use native.Mathlib.Omega.{arith}
use Rattle.text.proofs.PutParts.{puts_as}
use Rattle.text.proofs.WithinBounds.{rows_there}
use Rattle.journey_lines.proofs.JourneyLines.{rows-unrefused, rows-many, lines_printed}
use Rattle.journey_lines.proofs.put_projection.Goals as goal

pub returns-in-Ok : goal.returns-in-Ok
returns-in-Ok c =
    let s = c.args in
    let x = c.expected in
    let y = c.project in
    let many = rows-many s.n.now s.sheet.now c.requires.1 s.s c.requires.2 s.t x.result _ c.requires.3 c.requires.4 (omega (arith, x.ensures)) refl y.result y.ensures.0 _ c.in-Ok.is in
    let told = lines_printed s.n.now s.sheet.now c.requires.1 s.s c.requires.2 s.t x.result _ c.requires.3 c.requires.4 (omega (arith, x.ensures)) refl s.v x.ensures _ many _ y.ensures.1 in
    puts_as s.at _ _ _ s.out.now _ 1152 (rows_there s.at (omega (arith, c.requires.0)) s.s.0 s.t.0 _ _ told.0 told.1 ∙ told.2) c.put_rows.ensures

pub returns-in-Err : goal.returns-in-Err
returns-in-Err c =
    let s = c.args in
    let x = c.expected in
    let y = c.project in
    rows-unrefused s.n.now s.sheet.now c.requires.1 s.s c.requires.2 s.t x.result _ c.requires.3 c.requires.4 (omega (arith, x.ensures)) refl y.result y.ensures.0 _ c.in-Err.is
