-- The numbers of files, piece by piece, to write cases with. They are listed here a second time, beside the formats
-- that are tried; a field more in a row, or a part more of a network, moves its piece and no case. Assumes nothing.
use Rattle.std.specs.Prelude.{ℕ, zero, suc, ◌+◌, ◌-◌, length, take}
use mathlib.Core.List.{List, [], ◌∷◌, ◌++◌, flat_map}
use Rattle.timetable.specs.Formats.{bytes_of}

-- rows in a row, all but the last number, and how many bytes numbers take
unfoldable pub all : List (List ℕ) → List ℕ
all rows = flat_map (λ r. r) rows

unfoldable pub cut : List ℕ → List ℕ
cut ns = take (length ns - 1) ns

unfoldable pub size : List ℕ → ℕ
size ns = length (bytes_of ns)

-- networks

-- number, area, count of tracks
unfoldable pub station_row : ℕ → ℕ → ℕ → List ℕ
station_row s a k = s ∷ a ∷ k ∷ []

-- number, first station, second station, kind, least running times of passenger trains and of freight, capacity; with
-- both times the same; in W1's form, with one
unfoldable pub timed_row : ℕ → ℕ → ℕ → ℕ → ℕ → ℕ → ℕ → List ℕ
timed_row l a b k p f c = l ∷ a ∷ b ∷ k ∷ p ∷ f ∷ c ∷ []

unfoldable pub line_row : ℕ → ℕ → ℕ → ℕ → ℕ → ℕ → List ℕ
line_row l a b k r c = timed_row l a b k r r c

unfoldable pub old_row : ℕ → ℕ → ℕ → ℕ → ℕ → ℕ → List ℕ
old_row l a b k r c = l ∷ a ∷ b ∷ k ∷ r ∷ c ∷ []

-- station count, stations, headway, line count
unfoldable pub up_to_lines : List (List ℕ) → ℕ → ℕ → List ℕ
up_to_lines ss h m = length ss ∷ (all ss ++ (h ∷ m ∷ []))

-- line, start, end
unfoldable pub closure_row : ℕ → ℕ → ℕ → List ℕ
closure_row l a b = l ∷ a ∷ b ∷ []

-- what stands before the closures, with their count; a network file, and one without closures
unfoldable pub up_to_closures : List (List ℕ) → ℕ → List (List ℕ) → ℕ → List ℕ
up_to_closures ss h ls m = up_to_lines ss h (length ls) ++ (all ls ++ (m ∷ []))

unfoldable pub closed_row : List (List ℕ) → ℕ → List (List ℕ) → List (List ℕ) → List ℕ
closed_row ss h ls cs = up_to_closures ss h ls (length cs) ++ all cs

unfoldable pub network_row : List (List ℕ) → ℕ → List (List ℕ) → List ℕ
network_row ss h ls = closed_row ss h ls []

-- one station, with a headway and no lines; the place of that headway, and of the count behind it
unfoldable pub one_station : ℕ → ℕ → ℕ → ℕ → List ℕ
one_station s a k h = network_row (station_row s a k ∷ []) h []

unfoldable pub headway_place : ℕ
headway_place = size (up_to_lines (station_row 1 1 8 ∷ []) 3 0) - 2

-- the stations and the headway of the listing with some lines; the places of the first line, of the second, of the end
unfoldable pub two_stations : List (List ℕ)
two_stations = station_row 1 1 2 ∷ station_row 2 2 1 ∷ []

unfoldable pub joined_by : List (List ℕ) → List ℕ
joined_by ls = network_row two_stations 3 ls

unfoldable pub first_line : ℕ
first_line = size (up_to_lines two_stations 3 1)

unfoldable pub second_line : ℕ
second_line = first_line + size (line_row 1 1 2 3 10 1)

-- the network of the listing: `2, 1 1 2, 2 2 1, 3, 1, 1 1 2 3 10 1`; the same with a line that ends where it starts
unfoldable pub net_numbers : List ℕ
net_numbers = joined_by (line_row 1 1 2 3 10 1 ∷ [])

unfoldable pub loop_numbers : List ℕ
loop_numbers = joined_by (line_row 1 1 1 3 10 1 ∷ [])

-- the listing's network with closures; the places of the first, of the second
unfoldable pub closed_by : List (List ℕ) → List ℕ
closed_by cs = closed_row two_stations 3 (line_row 1 1 2 3 10 1 ∷ []) cs

unfoldable pub first_closure : ℕ
first_closure = size (up_to_closures two_stations 3 (line_row 1 1 2 3 10 1 ∷ []) 1)

unfoldable pub second_closure : ℕ
second_closure = first_closure + size (closure_row 1 100 110)

-- in W1's form: the listing's stations with some lines and closures; the place of the second line behind a first that
-- takes seven bytes, and of the first closure
unfoldable pub old_file : List (List ℕ) → List (List ℕ) → List ℕ
old_file ls cs = bytes_of (closed_row two_stations 3 ls cs)

unfoldable pub old_second : ℕ
old_second = first_line + size (old_row 1 1 2 3 240 1)

unfoldable pub old_closure : ℕ
old_closure = size (up_to_closures two_stations 3 (old_row 1 1 2 3 10 1 ∷ []) 1)

-- edits: the kind, then the fields

-- s, t, track, mark, arrival, departure; with mark 0
unfoldable pub marked_row : ℕ → ℕ → ℕ → ℕ → ℕ → ℕ → List ℕ
marked_row s t k m a d = s ∷ t ∷ k ∷ m ∷ a ∷ d ∷ []

unfoldable pub plan_row : ℕ → ℕ → ℕ → ℕ → ℕ → List ℕ
plan_row s t k a d = marked_row s t k 0 a d

-- the plan, then p, line, running time
unfoldable pub extension_row : List ℕ → ℕ → ℕ → ℕ → List ℕ
extension_row plan p l r = plan ++ (p ∷ l ∷ r ∷ [])

-- s, t, time, the minute that it carries; with the last minute
unfoldable pub dated_row : ℕ → ℕ → ℕ → ℕ → List ℕ
dated_row s t m p = s ∷ t ∷ m ∷ p ∷ []

unfoldable pub report_row : ℕ → ℕ → ℕ → List ℕ
report_row s t m = dated_row s t m 2879

unfoldable pub edit_row : ℕ → List ℕ → List ℕ
edit_row kind fields = kind ∷ fields

-- the edits of the listing: `4, 1 1 7 1 100 102, 3 2 7 1 115 115 1 1 12, 1 1 7 1 100 102, 9 1 1 5 2 7 9`
unfoldable pub listed_numbers : List ℕ
listed_numbers =
    4 ∷ all (edit_row 1 (plan_row 1 7 1 100 102)
    ∷ edit_row 3 (extension_row (plan_row 2 7 1 115 115) 1 1 12)
    ∷ edit_row 1 (plan_row 1 7 1 100 102)
    ∷ edit_row 9 (1 ∷ 1 ∷ 5 ∷ 2 ∷ 7 ∷ 9 ∷ [])
    ∷ [])

-- an edit of each kind, and of each kind of relation
-- with such a plan and such a report
unfoldable pub each_with : List ℕ → List ℕ → List ℕ
each_with plan report =
    13 ∷ all (edit_row 1 plan
    ∷ edit_row 2 (extension_row plan 2 1 12)
    ∷ edit_row 3 (extension_row plan 2 1 12)
    ∷ edit_row 4 (1 ∷ 7 ∷ 2 ∷ [])
    ∷ edit_row 5 (1 ∷ 7 ∷ 2 ∷ [])
    ∷ edit_row 6 plan
    ∷ edit_row 7 report
    ∷ edit_row 8 report
    ∷ edit_row 9 (1 ∷ 1 ∷ 5 ∷ 3 ∷ 7 ∷ 8 ∷ 9 ∷ [])
    ∷ edit_row 10 (1 ∷ 2 ∷ 5 ∷ 2 ∷ 7 ∷ 300 ∷ [])
    ∷ edit_row 9 (1 ∷ 3 ∷ 4 ∷ 2 ∷ 9 ∷ 7 ∷ [])
    ∷ edit_row 9 (1 ∷ 3 ∷ 4 ∷ 2 ∷ 7 ∷ 7 ∷ [])
    ∷ edit_row 11 (9999 ∷ [])
    ∷ [])

unfoldable pub each_kind : List ℕ
each_kind = each_with (plan_row 1 7 1 100 102) (report_row 1 7 100)

-- timetables

-- visits at station 1, of k trains from the given number on: each 10 bytes
unfoldable pub crowd_visits : ℕ → ℕ → List ℕ
crowd_visits from zero = []
crowd_visits from (suc k) = 1 ∷ from ∷ 1 ∷ 0 ∷ 100 ∷ 0 ∷ 102 ∷ 0 ∷ 0 ∷ 0 ∷ crowd_visits (suc from) k

-- connections at station 1: each 6 bytes
unfoldable pub connected : ℕ → ℕ → List ℕ
connected from zero = []
connected from (suc k) = 1 ∷ 1 ∷ from ∷ 2 ∷ 7 ∷ 8 ∷ connected (suc from) k

-- The key ring of this module: `unfolding opened` opens every definition above.
unfoldable pub opened : Unit {0}
unfolding all cut size station_row timed_row line_row old_row up_to_lines closure_row up_to_closures closed_row network_row one_station headway_place two_stations joined_by first_line second_line net_numbers loop_numbers closed_by first_closure second_closure old_file old_second old_closure
    marked_row plan_row extension_row dated_row report_row edit_row listed_numbers each_with each_kind crowd_visits connected flat_map
opened = tt
