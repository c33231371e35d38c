-- The numbers of rows in range are above 0. Assumes nothing.
use Rattle.std.specs.Prelude.{true, ◌≡◌, ◌<◌}
use Rattle.std.proofs.Common.{arith}
use lib.Dec.{leb→le}
use Rattle.base.proofs.Tests.{true_T, and_l}
use Rattle.network.specs.Types.{StationRow, LineRow, Closure}
use Rattle.network.specs.Networks.{station_row_ok, line_row_ok, closure_ok, closure_number}

pub station_positive : (r : StationRow) → station_row_ok r ≡ true → 0 < r.station.0
unfolding station_row_ok
station_positive r e = omega (arith, leb→le 1 r.station.0 (search (and_l, true_T _ e)))

pub line_positive : (r : LineRow) → line_row_ok r ≡ true → 0 < r.line.0
unfolding line_row_ok
line_positive r e = omega (arith, leb→le 1 r.line.0 (search (and_l, true_T _ e)))

pub closure_positive : (r : Closure) → closure_ok r ≡ true → 0 < closure_number r
unfolding closure_ok closure_number
closure_positive r e = omega (arith, leb→le 1 r.line.0 (search (and_l, true_T _ e)))
