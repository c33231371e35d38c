-- `sheet_lines::whole::put_lines` meets its contract: the lines under no area; their numbers stand in two bytes each.
-- Assumes nothing.
use mathlib.Core.List.{[], flat_map}
use native.Mathlib.Omega.{arith}
use Rattle.text.specs.between.Lines.{of_areas}
use Rattle.text.proofs.PutParts.{puts_as}
use Rattle.text.proofs.WithinBounds.{findings_there}
use Rattle.sheet_lines.proofs.FindingLines.{line_most, lines_short}
use Rattle.sheet_lines.proofs.whole.put_lines.Goals as goal

pub returns : goal.returns
unfolding of_areas flat_map
returns c =
    let s = c.args in
    let w = c.put_findings.ensures in
    let all = puts_as s.at _ _ _ _ _ _ (findings_there s.at c.requires.0 70 [] s.count s.numbers.now c.requires.1 c.requires.2) w in
    let most = lines_short 70 [] 26 (line_most 70 [] 0 (omega arith)) s.numbers.now s.count (λ i. (c.type_inv.numbers i).fits) c.requires.2 in
    (all.0, all.1, omega (arith, all.0, most))
