-- What holds of a good network, one that 3, 14 and 4 do not refuse: its values are in range, the numbers of its
-- stations and of its lines rise, so that none is there twice, each of its lines joins two different listed stations,
-- and each of its closures ends after its start and is of a listed line. These are the parts of the tests that decide
-- it. Assumes nothing.
use Prim.Native.Nat.{ℕ}
use mathlib.Core.Path.{◌≡◌}
use mathlib.Core.Bool.{not, ◌&&◌}
use mathlib.Core.List.{List, map}
use lib.Dec.{T, leb, eqb_refl}
use Rattle.base.specs.Lists.{every, each_two, rising, within}
use Rattle.base.proofs.Tests.{parts, held, rest_passed, every_any}
use Rattle.base.proofs.Sorted.{smaller, rising_map, two_map}
use Rattle.network.specs.Types.{Station, StationRow, LineRow, Network}
use Rattle.railway.specs.Ranges.{same_station}
use Rattle.network.specs.Networks.{station_rows, line_rows, stations_of, station_row_ok, line_row_ok, stations_rise, lines_rise, stations_in_range, lines_in_range}
use Rattle.network.specs.Networks.{network_in_range, listed, ends_listed, lines_joined, network_refusal}
use Rattle.network.specs.Networks.{closure_rows, closure_ok, closure_number, closures_rise, closures_in_range, ends_after, closures_end, line_listed, closures_listed}

abbrev pub station_number : Station → ℕ
station_number s = s.0

abbrev pub line_number : LineRow → ℕ
line_number r = r.line.0

pub record NetworkFacts (n : Network) : Type 0 where
  pub in_range : T (network_in_range n)
  pub station_count : T (within 1 16 n.stationcount)
  pub station_rows_ok : T (every station_row_ok (station_rows n))
  pub stations_rise : T (each_two (smaller station_number) (stations_of n))
  pub headway : T (within 1 30 n.headway)
  pub line_count : T (leb n.linecount 32)
  pub line_rows_ok : T (every line_row_ok (line_rows n))
  pub lines_rise : T (each_two (smaller line_number) (line_rows n))
  pub ends_listed : T (every (ends_listed n) (line_rows n))
  pub closure_count : T (leb n.closurecount 32)
  pub closures_ok : T (every closure_ok (closure_rows n))
  pub closures_rise : T (each_two (smaller closure_number) (closure_rows n))
  pub closures_end : T (every ends_after (closure_rows n))
  pub closures_listed : T (every (λ c. line_listed n c.line) (closure_rows n))

-- the stations themselves rise as the numbers of their rows do
rows_stations : (rows : List StationRow) → T (rising (map (λ r. r.station.0) rows)) → T (each_two (smaller station_number) (map (λ r. r.station) rows))
rows_stations rows t = rw (two_map (smaller station_number) (λ r. r.station) rows) (rw (rising_map (λ r. r.station.0) rows) at t)

pub network_facts : (n : Network) → network_refusal n ≡ 0 → NetworkFacts n
unfolding network_refusal network_in_range stations_in_range lines_in_range closures_in_range stations_rise lines_rise closures_rise lines_joined closures_end closures_listed stations_of
network_facts n g =
    let whole : T (network_in_range n) = held 2 (network_in_range n) _ g in
    let lines : T (rising (map line_number (line_rows n))) = search parts in
    let behind-3 = rest_passed 2 (not (network_in_range n)) _ g in
    let ended : T (closures_end n) = held 13 (closures_end n) _ behind-3 in
    let known : T (lines_joined n && closures_listed n) = held 3 (lines_joined n && closures_listed n) 0 (rest_passed 13 (not (closures_end n)) _ behind-3) in
    let numbers : T (rising (map closure_number (closure_rows n))) = search parts in
    record {
      in_range = whole;
      station_count = search parts;
      station_rows_ok = search parts;
      stations_rise = rows_stations (station_rows n) (search parts);
      headway = search parts;
      line_count = search parts;
      line_rows_ok = search parts;
      lines_rise = rw (rising_map line_number (line_rows n)) at lines;
      ends_listed = search parts;
      closure_count = search parts;
      closures_ok = search parts;
      closures_rise = rw (rising_map closure_number (closure_rows n)) at numbers;
      closures_end = ended;
      closures_listed = search parts;
    }

-- every station of a network is listed
pub stations_listed : (n : Network) → T (every (listed n) (stations_of n))
unfolding listed
stations_listed n = every_any same_station (λ s. eqb_refl s.0) (stations_of n)
