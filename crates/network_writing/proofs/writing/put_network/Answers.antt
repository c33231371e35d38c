-- `network_writing::writing::put_network` meets its contract: its four parts, one behind the other. Assumes nothing.
use mathlib.Core.Path.{ap}
use mathlib.Core.List.{[], ◌∷◌, ◌++◌, flat_map}
use native.Mathlib.Omega.{arith}
use lib.ListN.{length, length-take}
use Rattle.network.specs.declared.StationRow.{StationRow}
use Rattle.network.specs.declared.LineRow.{LineRow}
use Rattle.network.specs.declared.Closure.{Closure}
use Rattle.network.specs.Networks.{station_rows, line_rows, closure_rows}
use Rattle.timetable.specs.NetworkFile.{station_numbers, newest, line_numbers, closure_numbers, network_numbers_as, network_numbers}
use Rattle.fields.proofs.NumbersPut.{near, places_two}
use Rattle.network_writing.proofs.writing.put_network.Goals as goal

pub put_counted-headway-requires-clause-few : goal.put_counted-headway-requires-clause-few
unfolding station_rows
put_counted-headway-requires-clause-few c =
    let n = c.args.n.now in
    omega (arith, ap (length {A = StationRow}) c.station_rows.ensures, length-take n.stationcount n.stations)

pub put_counted-closures-requires-clause-few : goal.put_counted-closures-requires-clause-few
unfolding line_rows
put_counted-closures-requires-clause-few c =
    let n = c.args.n.now in
    omega (arith, ap (length {A = LineRow}) c.line_rows.ensures, length-take n.linecount n.lines)

pub put_counted-requires-clause-few : goal.put_counted-requires-clause-few
unfolding closure_rows
put_counted-requires-clause-few c =
    let n = c.args.n.now in
    omega (arith, ap (length {A = Closure}) c.closure_rows.ensures, length-take n.closurecount n.closures)

pub returns : goal.returns
unfolding network_numbers network_numbers_as
returns c =
    let n = c.args.n.now in
    let v = c.put_counted-headway in
    let w = c.put_number-lines in
    let x = c.put_counted-closures in
    let y = c.put_counted in
    let stations = n.stationcount ∷ flat_map station_numbers (station_rows n) in
    let lines = n.linecount ∷ flat_map (line_numbers newest) (line_rows n) in
    let closures = n.closurecount ∷ flat_map closure_numbers (closure_rows n) in
    let v-is = rw c.station_rows.ensures at v.ensures in
    let x-is = rw c.line_rows.ensures at x.ensures in
    let y-is = rw c.closure_rows.ensures at y.ensures in
    let h = rw c.from.ensures at (near v.result (c.from.result ∷ []) _ w.result w.new.out 3 (omega (arith, v.ensures.2)) w.ensures) in
    let l = places_two w.result x.result y.result lines closures _ x.new.out _ 9948 9948 x-is y-is in
    let m = places_two v.result w.result y.result (n.headway ∷ []) (lines ++ closures) _ w.new.out _ 3 19896 h l in
    let (p, q, b) = places_two 0 v.result y.result stations (n.headway ∷ (lines ++ closures)) _ v.new.out _ 9948 19899 v-is m in
    (omega (arith, p), q)
