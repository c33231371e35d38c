-- The network file. Document 01, "Files": "Network: station count, stations rising, headway, line count, lines rising,
-- fields as listed; rising is strict, for stations and lines by their number alone." Document 02, W1: "Up to 32
-- closures, with their count before them, stand in each file right after its network, rising by line and start". W3:
-- "Each line gets two [least running times], passenger first, in the network file in place of the one." A file has a
-- form; what is written has the newest. Assumes nothing.
use Rattle.std.specs.Prelude.{ℕ, ◌+◌, ◌-◌, not, eqb, length, get_or, replicate}
use mathlib.Core.List.{List, [], ◌∷◌, ◌++◌, map, flat_map}
use Rattle.std.specs.Prelude.{Option, None, Some}
use Rattle.std.specs.Prelude.{if◌then◌else◌}
use Rattle.base.specs.Lists.{first}
use Rattle.railway.specs.Ranges.{last_minute, last_end}
use Rattle.network.specs.Networks.{blank_station, blank_line, blank_closure, station_rows, line_rows, closure_rows, ends_after, ends_listed, line_listed}
use Rattle.timetable.specs.Types.{StationRow, LineRow, Closure, Network, NetworkForm, Fault}
use Rattle.timetable.specs.Formats.{Format, done, field, ◌and_then◌, Outcome, accepted, refused, behind, read_file, Range, ◌to◌, row, entries, Placed, placed}

-- rows

-- "stations (number, area, count of tracks 1..8)"
unfoldable pub station_ranges : List Range
station_ranges = 1 to 16 ∷ 1 to 6 ∷ 1 to 8 ∷ []

unfoldable pub station_of : List ℕ → StationRow
station_of ns = record { station = record { 0 = get_or ns 0 0 }; area = record { 0 = get_or ns 1 0 }; tracks = get_or ns 2 0 }

unfoldable pub station_numbers : StationRow → List ℕ
station_numbers r = r.station.0 ∷ r.area.0 ∷ r.tracks ∷ []

unfoldable pub station_entry : List ℕ → Format StationRow
station_entry floor = row station_ranges floor and_then (λ ns. done (station_of ns))

-- the form that is written
abbrev pub newest : NetworkForm
newest = NetworkForm.TwoTimes

-- "lines (number, first station, second station, kind, least running time, capacity 1..9)"; W3: two least times
unfoldable pub line_ranges : NetworkForm → List Range
line_ranges NetworkForm.OneTime = 1 to 32 ∷ 1 to 16 ∷ 1 to 16 ∷ 1 to 3 ∷ 1 to 240 ∷ 1 to 9 ∷ []
line_ranges NetworkForm.TwoTimes = 1 to 32 ∷ 1 to 16 ∷ 1 to 16 ∷ 1 to 3 ∷ 1 to 240 ∷ 1 to 240 ∷ 1 to 9 ∷ []

-- which of the numbers is the time of freight, the capacity behind it: "giving both times the old number"
abbrev pub freight_at : NetworkForm → ℕ
freight_at NetworkForm.OneTime = 4
freight_at NetworkForm.TwoTimes = 5

unfoldable pub line_of : NetworkForm → List ℕ → LineRow
line_of form ns = record {
  line = record { 0 = get_or ns 0 0 };
  first = record { 0 = get_or ns 1 0 };
  second = record { 0 = get_or ns 2 0 };
  kind = get_or ns 3 0;
  passenger = get_or ns 4 0;
  freight = get_or ns (freight_at form) 0;
  capacity = get_or ns (freight_at form + 1) 0;
}

-- the least times of a row as they stand in a file; one stands for both
unfoldable pub times : NetworkForm → LineRow → List ℕ
times NetworkForm.OneTime r = r.passenger ∷ []
times NetworkForm.TwoTimes r = r.passenger ∷ r.freight ∷ []

unfoldable pub line_numbers : NetworkForm → LineRow → List ℕ
line_numbers form r = r.line.0 ∷ r.first.0 ∷ r.second.0 ∷ r.kind ∷ (times form r ++ (r.capacity ∷ []))

unfoldable pub line_fields : NetworkForm → List ℕ → Format LineRow
line_fields form floor = row (line_ranges form) floor and_then (λ ns. done (line_of form ns))

unfoldable pub line_entry : NetworkForm → List ℕ → Format (Placed LineRow)
line_entry form floor = placed (line_fields form floor)

-- W1: line, start, end; "starts are 0..2879, ends 1..2880"
unfoldable pub closure_ranges : List Range
closure_ranges = 1 to 32 ∷ 0 to last_minute ∷ 1 to last_end ∷ []

unfoldable pub closure_of : List ℕ → Closure
closure_of ns = record { line = record { 0 = get_or ns 0 0 }; start = record { 0 = get_or ns 1 0 }; end = record { 0 = get_or ns 2 0 } }

unfoldable pub closure_numbers : Closure → List ℕ
closure_numbers c = c.line.0 ∷ c.start.0 ∷ c.end.0 ∷ []

unfoldable pub closure_fields : List ℕ → Format Closure
closure_fields floor = row closure_ranges floor and_then (λ ns. done (closure_of ns))

unfoldable pub closure_entry : List ℕ → Format (Placed Closure)
closure_entry floor = placed (closure_fields floor)

-- the network

-- the rows of a network, those that are in use
pub record Rows : Type 0 where
  pub stations : List StationRow
  pub headway : ℕ
  pub lines : List LineRow
  pub closures : List Closure

-- what a network file lists: its rows, the lines and the closures with their places
pub record Listed : Type 0 where
  pub stations : List StationRow
  pub headway : ℕ
  pub lines : List (Placed LineRow)
  pub closures : List (Placed Closure)

unfoldable pub station_floor : StationRow → List ℕ
station_floor r = r.station.0 ∷ []

unfoldable pub line_floor : Placed LineRow → List ℕ
line_floor l = l.entry.line.0 ∷ []

-- "rising by line and start"
unfoldable pub closure_floor : Placed Closure → List ℕ
closure_floor c = c.entry.line.0 ∷ c.entry.start.0 ∷ []

-- the first entry is compared with 0
unfoldable pub stations_format : ℕ → Format (List StationRow)
stations_format k = entries station_entry station_floor k (0 ∷ [])

unfoldable pub lines_format : NetworkForm → ℕ → Format (List (Placed LineRow))
lines_format form k = entries (line_entry form) line_floor k (0 ∷ [])

unfoldable pub closures_format : ℕ → Format (List (Placed Closure))
closures_format k = entries closure_entry closure_floor k (0 ∷ 0 ∷ [])

-- station count, stations, headway, line count, lines, closure count, closures: each with what is behind it, given what
-- stands before it. A part behind the closures takes the place of `done`.
unfoldable pub closures_part : List StationRow → ℕ → List (Placed LineRow) → ℕ → Format Listed
closures_part ss h ls m = closures_format m and_then (λ cs. done (record { stations = ss; headway = h; lines = ls; closures = cs }))

unfoldable pub closure_count_part : List StationRow → ℕ → List (Placed LineRow) → Format Listed
closure_count_part ss h ls = field 0 32 (λ m. closures_part ss h ls m)

unfoldable pub lines_part : NetworkForm → List StationRow → ℕ → ℕ → Format Listed
lines_part form ss h m = lines_format form m and_then (λ ls. closure_count_part ss h ls)

unfoldable pub count_part : NetworkForm → List StationRow → ℕ → Format Listed
count_part form ss h = field 0 32 (λ m. lines_part form ss h m)

unfoldable pub headway_part : NetworkForm → List StationRow → Format Listed
headway_part form ss = field 1 30 (λ h. count_part form ss h)

unfoldable pub stations_part : NetworkForm → ℕ → Format Listed
stations_part form k = stations_format k and_then (λ ss. headway_part form ss)

unfoldable pub network_format_as : NetworkForm → Format Listed
network_format_as form = field 1 16 (λ k. stations_part form k)

unfoldable pub network_format : Format Listed
network_format = network_format_as newest

-- a network of these rows, the rows that are not used blank
unfoldable pub network_with : Rows → Network
network_with x = record {
  stationcount = length x.stations;
  stations = x.stations ++ replicate (16 - length x.stations) blank_station;
  headway = x.headway;
  linecount = length x.lines;
  lines = x.lines ++ replicate (32 - length x.lines) blank_line;
  closurecount = length x.closures;
  closures = x.closures ++ replicate (32 - length x.closures) blank_closure;
}

-- the rows of a network, and those that are listed
unfoldable pub rows_in : Network → Rows
rows_in n = record { stations = station_rows n; headway = n.headway; lines = line_rows n; closures = closure_rows n }

unfoldable pub rows_listed : Listed → Rows
rows_listed x = record {
  stations = x.stations;
  headway = x.headway;
  lines = map (λ l. l.entry) x.lines;
  closures = map (λ c. c.entry) x.closures;
}

unfoldable pub network_of : Listed → Network
network_of x = network_with (rows_listed x)

-- the network that stands in an answer beside a refusal
unfoldable pub blank_network : Network
blank_network = network_with (record { stations = []; headway = 0; lines = []; closures = [] })

-- "It refuses, with 14, a closure (at its first byte) whose end isn't after its start": the first such closure
unfoldable pub unended : Listed → Option (Placed Closure)
unended x = first (λ c. not (ends_after c.entry)) x.closures

-- "4 a line's ends aren't two different listed stations": the first such line
unfoldable pub unjoined : Listed → Option (Placed LineRow)
unjoined x = first (λ l. not (ends_listed (network_of x) l.entry)) x.lines

-- "A closure of an unlisted line is refused with 4.": the first such closure
unfoldable pub unlisted : Listed → Option (Placed Closure)
unlisted x = first (λ c. not (line_listed (network_of x) c.entry.line)) x.closures

-- "4, 7, 12: the entry's first"
unfoldable pub fault_of : {A : Type 0} → ℕ → Option (Placed A) → Fault
fault_of k None = record { number = 0; place = 0 }
fault_of k (Some e) = record { number = k; place = e.place }

-- the one, or what comes behind it
unfoldable pub or_fault : Fault → Fault → Fault
or_fault f later = if eqb f.number 0 then later else f

-- what only the whole network shows: the first such fault by its number and place; 14 comes before 4, and lines before
-- closures
unfoldable pub network_fault : Listed → Fault
network_fault x = or_fault (fault_of 14 (unended x)) (or_fault (fault_of 4 (unjoined x)) (fault_of 4 (unlisted x)))

-- "in files the first faulty number by place, then 4": the fault of a file whose numbers are read; number 0 where there
-- is none
unfoldable pub unless_fault : {A : Type 0} → Fault → Outcome A → Outcome A
unless_fault f o = if eqb f.number 0 then o else refused f.number f.place

-- in memory a network is refused at place 0, with 3 before a file is read under it and with what comes behind 3 after
-- the file's own faults: the order of `early` (Refusals), with places
unfoldable pub under : {A B : Type 0} → ℕ → Outcome A → (A → ℕ → Outcome B) → Outcome B
under network own both =
    if eqb network 3 then refused 3 0
    else behind own (λ x next. unless_fault (record { number = network; place = 0 }) (both x next))

-- by a form that is named
unfoldable pub read_network_as : NetworkForm → List ℕ → Outcome Network
read_network_as form file = behind (read_file (network_format_as form) file) (λ x next. unless_fault (network_fault x) (accepted (network_of x) next))

unfoldable pub read_network : List ℕ → Outcome Network
read_network file = read_network_as newest file

-- writing, in the newest form
unfoldable pub network_numbers_as : NetworkForm → Network → List ℕ
network_numbers_as form n =
    n.stationcount ∷ (flat_map station_numbers (station_rows n)
    ++ (n.headway ∷ n.linecount ∷ (flat_map (line_numbers form) (line_rows n)
    ++ (n.closurecount ∷ flat_map closure_numbers (closure_rows n)))))

unfoldable pub network_numbers : Network → List ℕ
network_numbers n = network_numbers_as newest n

-- The key ring of this module: `unfolding opened` opens every definition above.
unfoldable pub opened : Unit {0}
unfolding station_ranges station_of station_numbers station_entry line_ranges line_of times line_numbers line_fields line_entry closure_ranges closure_of closure_numbers
    closure_fields closure_entry station_floor line_floor closure_floor stations_format lines_format closures_format
    closures_part closure_count_part lines_part count_part headway_part stations_part network_format_as network_format network_with rows_in rows_listed network_of
    blank_network unended unjoined unlisted fault_of or_fault network_fault unless_fault under read_network_as read_network network_numbers_as network_numbers
opened = tt
