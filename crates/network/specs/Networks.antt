-- Networks: which are good, and what a network knows. Document 01, "The railway and its numbers", "Sheets and
-- division", "Who brings on which number"; document 02, W1 and W3. Assumes nothing.
use Rattle.std.specs.Prelude.{ℕ, ◌+◌, ◌*◌, Bool, true, not, ◌&&◌, ◌||◌, List, map, ltb, leb, eqb, take}
use Rattle.std.specs.Prelude.{Option, None, Some, option_map}
use Rattle.base.specs.Choice.{◌if◌else◌}
use Rattle.base.specs.Lists.{any, every, first, is, within, rising}
use Rattle.network.specs.Types.{Station, Train, Track, Line, StationRow, LineRow, Closure, Area, Network}
use Rattle.railway.specs.Ranges.{station_ok, area_ok, line_ok, minute_ok, window_end_ok, run_ok, is_freight, same_station, same_line}

-- a row that is not used
abbrev pub blank_station : StationRow
blank_station = record { station = record { 0 = 0 }; area = record { 0 = 0 }; tracks = 0 }

abbrev pub blank_line : LineRow
blank_line = record { line = record { 0 = 0 }; first = record { 0 = 0 }; second = record { 0 = 0 }; kind = 0; passenger = 0; freight = 0; capacity = 0 }

abbrev pub blank_closure : Closure
blank_closure = record { line = record { 0 = 0 }; start = record { 0 = 0 }; end = record { 0 = 0 } }

-- the rows in use
unfoldable pub station_rows : Network → List StationRow
station_rows n = take n.stationcount n.stations

unfoldable pub line_rows : Network → List LineRow
line_rows n = take n.linecount n.lines

unfoldable pub closure_rows : Network → List Closure
closure_rows n = take n.closurecount n.closures

unfoldable pub stations_of : Network → List Station
stations_of n = map (λ r. r.station) (station_rows n)

-- ranges

-- "(number, area, count of tracks 1..8)"
unfoldable pub station_row_ok : StationRow → Bool
station_row_ok r = station_ok r.station && (area_ok r.area && within 1 8 r.tracks)

-- "(number, first station, second station, kind, least running time, capacity 1..9)"; W3: "Each line gets two,
-- passenger first, .. in place of the one."
unfoldable pub line_row_ok : LineRow → Bool
line_row_ok r =
    (line_ok r.line && (station_ok r.first && station_ok r.second))
    && (within 1 3 r.kind && ((run_ok r.passenger && run_ok r.freight) && within 1 9 r.capacity))

-- "starts are 0..2879, ends 1..2880"
unfoldable pub closure_ok : Closure → Bool
closure_ok c = line_ok c.line && (minute_ok c.start && window_end_ok c.end)

-- "rising by line and start": a start is below 2880, so the two are one number
unfoldable pub closure_number : Closure → ℕ
closure_number c = 2880 * c.line.0 + c.start.0

-- each row is in range; "rising is strict, for stations and lines by their number alone"
unfoldable pub stations_rise : Network → Bool
stations_rise n = every station_row_ok (station_rows n) && rising (map (λ r. r.station.0) (station_rows n))

unfoldable pub lines_rise : Network → Bool
lines_rise n = every line_row_ok (line_rows n) && rising (map (λ r. r.line.0) (line_rows n))

unfoldable pub closures_rise : Network → Bool
closures_rise n = every closure_ok (closure_rows n) && rising (map closure_number (closure_rows n))

-- "A network lists 1..16 stations"
unfoldable pub stations_in_range : Network → Bool
stations_in_range n = within 1 16 n.stationcount && stations_rise n

-- "0..32 lines"
unfoldable pub lines_in_range : Network → Bool
lines_in_range n = leb n.linecount 32 && lines_rise n

-- "Up to 32 closures"
unfoldable pub closures_in_range : Network → Bool
closures_in_range n = leb n.closurecount 32 && closures_rise n

-- "a headway 1..30"
unfoldable pub network_in_range : Network → Bool
network_in_range n = stations_in_range n && (within 1 30 n.headway && (lines_in_range n && closures_in_range n))

-- what a network knows

unfoldable pub listed : Network → Station → Bool
listed n s = any (same_station s) (stations_of n)

unfoldable pub station_row : Network → Station → Option StationRow
station_row n s = first (λ r. same_station r.station s) (station_rows n)

unfoldable pub line_row : Network → Line → Option LineRow
line_row n l = first (λ r. same_line r.line l) (line_rows n)

-- the number of a station's area, 0 where it is not listed
abbrev pub row_area : Option StationRow → ℕ
row_area None = 0
row_area (Some r) = r.area.0

unfoldable pub area_of : Network → Station → ℕ
area_of n s = row_area (station_row n s)

-- the station is listed and has the track
unfoldable pub track_known : Network → Station → Track → Bool
track_known n s t = is (λ r. leb t.0 r.tracks) (station_row n s)

-- the kind is not the other way's alone, and the ends are those asked for
unfoldable pub way_open : ℕ → ℕ → Station → Station → Station → Station → Bool
way_open kind other a from b to = not (eqb kind other) && (same_station a from && same_station b to)

-- "Kind 1 runs first to second, 2 second to first, 3 either way."
unfoldable pub row_runs : LineRow → Station → Station → Bool
row_runs r from to = way_open r.kind 2 r.first from r.second to || way_open r.kind 1 r.second from r.first to

-- W3: "The least time is then that of a line and a train"
unfoldable pub least_time : LineRow → Train → ℕ
least_time r t = r.freight if is_freight t else r.passenger

-- "giving both times the old number"
unfoldable pub same_times : LineRow → Bool
same_times r = eqb r.passenger r.freight

-- the line is listed and runs from the one station to the other
unfoldable pub runs : Network → Line → Station → Station → Bool
runs n l from to = is (λ r. row_runs r from to) (line_row n l)

-- "4 a line's ends aren't two different listed stations"
unfoldable pub ends_listed : Network → LineRow → Bool
ends_listed n r = listed n r.first && (listed n r.second && not (same_station r.first r.second))

unfoldable pub lines_joined : Network → Bool
lines_joined n = every (ends_listed n) (line_rows n)

-- "It refuses, with 14, a closure .. whose end isn't after its start"
unfoldable pub ends_after : Closure → Bool
ends_after c = ltb c.start.0 c.end.0

unfoldable pub closures_end : Network → Bool
closures_end n = every ends_after (closure_rows n)

-- "A closure of an unlisted line is refused with 4."
unfoldable pub line_listed : Network → Line → Bool
line_listed n l = is (λ r. true) (line_row n l)

unfoldable pub closures_listed : Network → Bool
closures_listed n = every (λ c. line_listed n c.line) (closure_rows n)

-- "A good network's closures are ones that 3, 4 and 14 don't refuse."; 14 "tested straight after 3"
unfoldable pub network_refusal : Network → ℕ
network_refusal n =
    3 if not (network_in_range n)
    else 14 if not (closures_end n)
    else 4 if not (lines_joined n && closures_listed n)
    else 0

-- the area of a row that was found
abbrev pub area_in : Option StationRow → Option Area
area_in r = option_map (λ x. x.area) r

-- The key ring of this module: `unfolding opened` opens every definition above.
unfoldable pub opened : Unit {0}
unfolding station_rows line_rows closure_rows stations_of station_row_ok line_row_ok closure_ok closure_number stations_rise lines_rise closures_rise
    stations_in_range lines_in_range closures_in_range network_in_range
    listed station_row line_row area_of track_known way_open row_runs least_time same_times runs ends_listed lines_joined ends_after closures_end line_listed closures_listed network_refusal
opened = tt
