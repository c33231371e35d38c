-- `journey_lines::put_stations` meets its contract: the visits of so many stations are put. Assumes nothing.
use Prim.Native.Nat.{ℕ, ◌≤◌}
use mathlib.Core.Path.{◌∙◌, ap}
use lib.ListN.{length}
use mathlib.Core.List.{List, [], flat_map}
use native.Mathlib.Omega.{arith}
use Rattle.network.specs.Networks.{blank_station}
use Rattle.sheet.specs.Sheets.{decode_sheet}
use Rattle.listings.specs.Inspect.{visit_text}
use Rattle.journey_lines.specs.Types.{StationRow}
use Rattle.text.proofs.PutParts.{none_put, one_put, all_put, puts_as}
use Rattle.findings.proofs.ListedSheet.{fine_network}
use Rattle.journey_lines.proofs.JourneyLines.{rows_many, row_listed, rows_journeys}
use Rattle.journey_lines.proofs.put_stations.Goals as goal

pub loop-row-init : goal.loop-row-init
loop-row-init c =
    let s = c.args in
    let m = decode_sheet s.sheet.now in
    none_put (λ (r : StationRow). flat_map (visit_text s.n.now m r.station) (m r.station).visits) [] 27648 0 _

pub put_visits-next-requires : goal.put_visits-next-requires
put_visits-next-requires c =
    let s = c.args in
    let good = fine_network s.n.now s.sheet.now c.requires in
    let m = decode_sheet s.sheet.now in
    let rows = c.station_rows-row-items in
    let few : length rows.result.now ≤ 16 = rw rows.ensures (rows_many s.n.now good m) in
    let inside = rw rows.ensures at c.loop-row-test.true in (
      omega (arith, c.loop-row.invariant.2, c.loop-row-test.true, few),
      c.requires,
      rw rows.ensures (row_listed s.n.now good m c.loop-row.row-index inside),
    )

pub loop-row-preserved : goal.loop-row-preserved
loop-row-preserved c =
    let s = c.args in
    let m = decode_sheet s.sheet.now in
    one_put (λ (r : StationRow). flat_map (visit_text s.n.now m r.station) (m r.station).visits) _ 27648 0 _ _ _ _ _ _ blank_station c.loop-row-test.true c.loop-row.invariant c.put_visits-next.ensures

pub returns : goal.returns
returns c =
    let s = c.args in
    let good = fine_network s.n.now s.sheet.now c.requires in
    let m = decode_sheet s.sheet.now in
    let rows = c.station_rows-row-items in
    let few : length rows.result.now ≤ 16 = rw rows.ensures (rows_many s.n.now good m) in
    let f : StationRow → List ℕ = (λ (r : StationRow). flat_map (visit_text s.n.now m r.station) (m r.station).visits) in
    let all = all_put f _ 27648 0 _ _ _ _ c.loop-row-test.false c.loop-row.invariant in
    let whole = puts_as 0 _ _ _ _ _ _ (ap (flat_map f) rows.ensures ∙ rows_journeys s.n.now good m) all in
    (whole.0, whole.1, omega (arith, whole.2, few, c.loop-row.auto.row-index-end))
