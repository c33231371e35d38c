-- `inspect_lines::parts::put_part` meets its contract: each index has its part. Assumes nothing.
use Prim.Native.Nat.{◌*◌, ◌≤◌, ◌<◌}
use mathlib.Core.Path.{◌≡◌, refl, ◌∙◌}
use native.Mathlib.Omega.{arith}
use Rattle.timetable.specs.Outputs.{put}
use Rattle.sheet.specs.Sheets.{decode_sheet}
use Rattle.builder.specs.between.Builder.{findings_most}
use Rattle.listings.specs.Inspect.{totals_text}
use Rattle.text.proofs.PutParts.{puts_as}
use Rattle.findings.proofs.ListedSheet.{fine_size}
use Rattle.sheet_lines.proofs.FindingLines.{whole_there, count_there}
use Rattle.sheet_lines.proofs.TotalsLine.{totals_there}
use Rattle.journey_lines.proofs.JourneyLines.{journeys_there}
use Rattle.area_lines.proofs.AreaLists.{area_there}
use Rattle.inspect_lines.proofs.PartIndices.{area_at, part_whole, part_area, part_pair, part_totals, part_journeys, part_written, part_none}
use Rattle.inspect_lines.proofs.parts.put_part.Goals as goal

pub returns-in-0 : goal.returns-in-0
returns-in-0 c =
    let s = c.args in
    let e = puts_as 0 _ _ _ _ _ (26 * findings_most) (whole_there 0 (omega arith) s.n.now s.sheet.now c.requires.0) c.put_whole.ensures.0 in
    rw (part_whole s.n.now (decode_sheet s.sheet.now) s.bytes.now s.k c.in-0.is) (e.0, e.1, omega (arith, e.2))

pub returns-in-1-to-6 : goal.returns-in-1-to-6
returns-in-1-to-6 c =
    let s = c.args in
    let above : ¬ (s.k ≡ 0) = (λ z. omega (arith, z)) in
    let below : s.k < 7 = omega arith in
    let text = area_there s.n.now s.sheet.now c.requires.0 _ (area_at s.k above below) in
    let e = puts_as 0 _ _ _ _ _ (30 * findings_most) text c.put_area.ensures in
    rw (part_area s.n.now (decode_sheet s.sheet.now) s.bytes.now s.k above below) (e.0, e.1, omega (arith, e.2))

pub returns-in-7-to-21 : goal.returns-in-7-to-21
returns-in-7-to-21 c =
    let s = c.args in
    let e = c.put_pair_at.ensures in
    rw (part_pair s.n.now (decode_sheet s.sheet.now) s.bytes.now s.k (omega arith) (omega arith)) e

pub returns-in-22 : goal.returns-in-22
unfolding totals_text
returns-in-22 c =
    let s = c.args in
    let many = c.put_whole-whole.ensures.1 ∙ count_there 0 (omega arith) s.n.now s.sheet.now c.requires.0 in
    let text = totals_there 0 (omega arith) s.n.now s.sheet.now (fine_size s.n.now s.sheet.now c.requires.0) c.put_whole-whole.result.count in
    let e = puts_as 0 _ _ _ _ _ 68 text c.put_totals.ensures in
    rw (part_totals s.n.now (decode_sheet s.sheet.now) s.bytes.now s.k c.in-22.is, ← many) (e.0, e.1, omega (arith, e.2))

pub returns-in-23 : goal.returns-in-23
returns-in-23 c =
    let s = c.args in
    let e = puts_as 0 _ _ _ _ _ 442368 (journeys_there s.n.now s.sheet.now c.requires.0) c.put_journeys.ensures in
    rw (part_journeys s.n.now (decode_sheet s.sheet.now) s.bytes.now s.k c.in-23.is) (e.0, e.1, omega (arith, e.2))

pub returns-in-24 : goal.returns-in-24
returns-in-24 c =
    let s = c.args in
    let e = c.put_written.ensures in
    rw (part_written s.n.now (decode_sheet s.sheet.now) s.bytes.now s.k c.in-24.is) (e.0, e.1, omega (arith, e.2))

pub returns-in_default : goal.returns-in_default
unfolding put
returns-in_default c =
    let s = c.args in
    let far : 25 ≤ s.k = omega arith in
    rw (part_none s.n.now (decode_sheet s.sheet.now) s.bytes.now s.k far) (refl, refl, omega arith)
