-- The examples' table: (a) to (k) of document 01 and the listing of `shift`, then the edges that they leave open, as
-- rows of one table with one computed test. Where a row fails, the error shows its place. Assumes nothing.
use Rattle.std.specs.Prelude.{◌+◌, ◌-◌, ◌≡◌, refl, true, false, List, [], ◌∷◌, ◌++◌, replicate}
use Rattle.timetable.specs.Types.{Connection, Disconnection, Dependency, InLink, OutLink, Place, Amend}
use Rattle.timetable.specs.Findings.{finding}
use Rattle.timetable.specs.Machine.{nothing_placed}
use Rattle.timetable.specs.Formats.{bytes_of}
use Rattle.timetable.specs.Pieces.{cut, size, station_row, timed_row, line_row, old_row, up_to_lines, network_row, one_station, headway_place, joined_by, first_line, second_line, closure_row, up_to_closures, closed_row, closed_by, first_closure, second_closure, old_file, old_second, old_closure, two_stations}
use Rattle.timetable.specs.Pieces.{marked_row, extension_row, dated_row, report_row, edit_row, net_numbers, loop_numbers, listed_numbers, each_with, each_kind, crowd_visits, connected}
use Rattle.timetable.specs.Cases as Cases
use Rattle.timetable.specs.Cases.{st, plan, place, prepend, append, delete_first, delete_last, arrives_by, departs_by, arrives, departs, relate, unrelate, delete_train}
use Rattle.timetable.specs.Cases.{four, two, pair, station, line, network, closure, closed_lines, closed, windows, timed, with_capacity, net, branch, leaving, inbound, crowd, connections}
use Rattle.timetable.specs.Cases.{marked_plan, request, later, visiting, by, to, tabled, standing, bare, counted, told}
use Rattle.timetable.specs.Cases.{Case, bytes, unread, found, stands, related, answered, answered_on, ordered, network_is, refused_early, naming, table_is}
use Rattle.timetable.specs.Cases.{network_file, turning, edits_file, shift_file, timetable_file, early_edits_file, early_timetable_file}
use Rattle.timetable.specs.Cases.{area_has, pair_has, rechecks, rechecks_area, rechecks_other, rechecks_other_area, list_is, projected, tallied, printed, failing, run_in, run_of, listed_edits}

-- document 01, "Examples on the edges" and "A run of the program `shift`"
pub document : List Case
document =
    -- (a) (b)
    bytes 300 (0xac ∷ 0x02 ∷ [])
    ∷ unread (0x80 ∷ 0x00 ∷ []) 2
    -- (c)
    ∷ found net (place 1 7 1 100 102 ∷ place 1 8 1 102 104 ∷ []) (finding (st 1) 2 7 8) true
    ∷ found net (place 1 7 1 100 102 ∷ place 1 8 1 103 104 ∷ []) (finding (st 1) 2 7 8) false
    -- (d)
    ∷ found net (leaving 7 102 12 ++ leaving 8 104 12) (finding (st 1) 3 7 8) true
    ∷ found net (leaving 7 102 12 ++ leaving 8 105 12) (finding (st 1) 3 7 8) false
    -- (e)
    ∷ found net (place 1 7 1 100 110 ∷ place 1 8 2 105 112 ∷ relate (Connection 5 (two 7 8)) ∷ []) (finding (st 1) 4 1 0) false
    ∷ found net (place 1 7 1 100 110 ∷ place 1 8 2 106 112 ∷ relate (Connection 5 (two 7 8)) ∷ []) (finding (st 1) 4 1 0) true
    -- (f)
    ∷ found net (place 1 7 1 100 104 ∷ relate (Dependency 4 (pair 7 7)) ∷ []) (finding (st 1) 4 1 0) false
    ∷ found net (place 1 7 1 100 103 ∷ relate (Dependency 4 (pair 7 7)) ∷ []) (finding (st 1) 4 1 0) true
    -- (g)
    ∷ related (relate (Dependency 4 (pair 7 7)) ∷ delete_train 9 ∷ []) (Dependency 4 (pair 7 7) ∷ [])
    -- (h)
    ∷ related (relate (Connection 5 (four 7 8 9 0)) ∷ relate (Connection 5 (two 7 8)) ∷ delete_train 9 ∷ []) (Connection 5 (two 7 8) ∷ [])
    -- (i)
    ∷ found net (leaving 7 100 12 ++ leaving 8 111 12) (finding (st 1) 6 8 0) true
    ∷ found net (leaving 7 100 12 ++ leaving 8 112 12) (finding (st 1) 6 8 0) false
    -- (j)
    ∷ found net (leaving 7 100 12 ++ inbound 8 100) (finding (st 1) 10 7 8) true
    ∷ found net (leaving 7 100 12 ++ inbound 8 99) (finding (st 1) 10 7 8) false
    -- (k)
    ∷ answered net (crowd 1 25)
    (0 ∷ 0 ∷ 0 ∷ 0 ∷ 0 ∷ 0 ∷ 0 ∷ 0 ∷ 0 ∷ 0 ∷ 0 ∷ 0 ∷ 0 ∷ 0 ∷ 0 ∷ 0 ∷ 0 ∷ 0 ∷ 0 ∷ 0 ∷ 0 ∷ 0 ∷ 0 ∷ 0 ∷ 0 ∷ 0 ∷ 0 ∷ 0 ∷ 0 ∷ 0 ∷ 0 ∷ 0 ∷ 0 ∷ 0 ∷ 0 ∷ 0 ∷ 0 ∷ 0 ∷ 0 ∷ 0 ∷ 0 ∷ 0 ∷ 0 ∷ 0 ∷ 0 ∷ 0 ∷ 0 ∷ 0 ∷ 12 ∷ 0 ∷ [])
    -- the listing
    ∷ printed listed_edits
    ((69 ∷ 1 ∷ 0 ∷ 0 ∷ [])
    ∷ (69 ∷ 2 ∷ 0 ∷ 0 ∷ [])
    ∷ (69 ∷ 3 ∷ 8 ∷ 0 ∷ [])
    ∷ (69 ∷ 4 ∷ 0 ∷ 0 ∷ [])
    ∷ (70 ∷ 1 ∷ 4 ∷ 1 ∷ 0 ∷ [])
    ∷ (70 ∷ 1 ∷ 9 ∷ 7 ∷ 0 ∷ [])
    ∷ (84 ∷ 2 ∷ 1 ∷ 2 ∷ [])
    ∷ (65 ∷ 3 ∷ 1 ∷ 2 ∷ 0 ∷ [])
    ∷ [])
    ∷ []

-- which values are in range: 3 and 7
pub ranges : List Case
ranges =
    answered net
    (place 17 7 1 1 1 ∷ place 1 0 1 1 1 ∷ place 1 10000 1 1 1 ∷ place 1 9999 2 2879 2879 ∷ place 1 8 1 2880 2880 ∷ place 1 8 9 1 1 ∷ place 1 8 3 1 1 ∷ place 3 8 1 1 1 ∷ [])
    (3 ∷ 0 ∷ 3 ∷ 0 ∷ 3 ∷ 0 ∷ 0 ∷ 0 ∷ 3 ∷ 0 ∷ 3 ∷ 0 ∷ 7 ∷ 0 ∷ 7 ∷ 0 ∷ [])
    ∷ answered net (place 2 7 1 50 50 ∷ prepend (plan 1 7 1 9 9) 2 1 0 ∷ prepend (plan 1 7 1 9 9) 2 1 241 ∷ prepend (plan 1 7 1 9 9) 2 33 12 ∷ prepend (plan 1 7 1 9 9) 2 2 12 ∷ prepend (plan 1 7 1 9 9) 2 1 240 ∷ [])
    (0 ∷ 0 ∷ 3 ∷ 0 ∷ 3 ∷ 0 ∷ 3 ∷ 0 ∷ 7 ∷ 0 ∷ 0 ∷ 0 ∷ [])
    ∷ answered net (relate (Connection 241 (two 7 8)) ∷ relate (Connection 240 (two 7 8)) ∷ relate (Connection 5 (two 7 7)) ∷ relate (Connection 5 (two 8 7)) ∷ [])
    (3 ∷ 0 ∷ 0 ∷ 0 ∷ 3 ∷ 0 ∷ 3 ∷ 0 ∷ [])
    ∷ answered net (relate (Connection 5 (four 7 0 8 0)) ∷ relate (Connection 5 (four 7 8 0 9)) ∷ relate (Connection 5 (four 7 8 9 9)) ∷ relate (Connection 5 (four 7 8 9 10)) ∷ relate (Connection 5 (four 7 0 0 0)) ∷ relate (Connection 5 (two 7 10000)) ∷ [])
    (3 ∷ 0 ∷ 3 ∷ 0 ∷ 3 ∷ 0 ∷ 0 ∷ 0 ∷ 3 ∷ 0 ∷ 3 ∷ 0 ∷ [])
    ∷ answered net (relate (Dependency 5 (pair 9 7)) ∷ relate (Dependency 5 (pair 7 0)) ∷ []) (0 ∷ 0 ∷ 3 ∷ 0 ∷ [])
    -- a line runs its own way only
    ∷ answered branch (place 2 7 1 50 50 ∷ prepend (plan 1 7 1 30 40) 2 1 12 ∷ []) (0 ∷ 0 ∷ 0 ∷ 0 ∷ [])
    ∷ answered branch (place 1 7 1 50 50 ∷ prepend (plan 2 7 1 30 40) 1 1 12 ∷ append (plan 2 7 1 60 60) 1 1 12 ∷ []) (0 ∷ 0 ∷ 7 ∷ 0 ∷ 0 ∷ 0 ∷ [])
    ∷ answered branch (place 2 7 1 50 50 ∷ prepend (plan 3 7 1 30 40) 2 2 12 ∷ []) (0 ∷ 0 ∷ 0 ∷ 0 ∷ [])
    ∷ answered branch (place 3 7 1 50 50 ∷ prepend (plan 2 7 1 30 40) 3 2 12 ∷ []) (0 ∷ 0 ∷ 7 ∷ 0 ∷ [])
    -- s = p
    ∷ answered net (place 1 7 1 50 50 ∷ prepend (plan 1 8 1 30 40) 1 1 12 ∷ append (plan 1 8 1 30 40) 1 1 12 ∷ delete_first 1 7 1 ∷ delete_last 1 7 1 ∷ delete_first 1 8 1 ∷ [])
    (0 ∷ 0 ∷ 7 ∷ 0 ∷ 7 ∷ 0 ∷ 10 ∷ 0 ∷ 10 ∷ 0 ∷ 9 ∷ 0 ∷ [])
    -- networks
    ∷ network_is net 0
    ∷ network_is branch 0
    ∷ network_is (network [] 3 []) 3
    ∷ network_is (network (station 1 1 2 ∷ []) 0 []) 3
    ∷ network_is (network (station 1 1 2 ∷ []) 31 []) 3
    ∷ network_is (network (station 1 1 2 ∷ []) 30 []) 0
    ∷ network_is (network (station 1 1 9 ∷ []) 3 []) 3
    ∷ network_is (network (station 1 7 2 ∷ []) 3 []) 3
    ∷ network_is (network (station 2 1 2 ∷ station 2 1 2 ∷ []) 3 []) 3
    ∷ network_is (network (station 2 1 2 ∷ station 1 1 2 ∷ []) 3 []) 3
    ∷ network_is (network (station 1 1 2 ∷ station 2 1 2 ∷ []) 3 (line 1 1 2 4 10 1 ∷ [])) 3
    ∷ network_is (network (station 1 1 2 ∷ station 2 1 2 ∷ []) 3 (line 1 1 2 3 10 10 ∷ [])) 3
    ∷ network_is (network (station 1 1 2 ∷ station 2 1 2 ∷ []) 3 (line 1 1 1 3 10 1 ∷ [])) 4
    ∷ network_is (network (station 1 1 2 ∷ station 2 1 2 ∷ []) 3 (line 1 1 3 3 10 1 ∷ [])) 4
    ∷ network_is (network (station 1 1 2 ∷ station 2 1 2 ∷ []) 3 (line 1 3 2 3 10 1 ∷ [])) 4
    ∷ network_is (network (station 1 1 2 ∷ station 2 1 2 ∷ []) 3 (line 1 1 1 3 10 1 ∷ line 1 1 2 3 10 1 ∷ [])) 3
    -- the areas that an edit names
    ∷ naming branch (place 3 7 1 1 1) (2 ∷ [])
    ∷ naming branch (prepend (plan 1 7 1 1 1) 2 1 12) (1 ∷ 2 ∷ [])
    ∷ naming branch (prepend (plan 3 7 1 1 1) 2 2 12) (2 ∷ [])
    ∷ naming branch (delete_first 1 7 3) (1 ∷ 2 ∷ [])
    ∷ naming branch (delete_train 7) (1 ∷ 2 ∷ [])
    ∷ naming branch (place 4 7 1 1 1) []
    ∷ naming branch (prepend (plan 2 7 1 1 1) 1 1 12) []
    ∷ naming branch (delete_train 0) []
    -- tables that are good, and that are not
    ∷ table_is (tabled (visiting 7 100 false 90 true (by 2 1) (to 2 1 12) ∷ visiting 8 100 true 100 true InLink.Nothing OutLink.Nothing ∷ []) (Connection 5 (two 7 8) ∷ Dependency 5 (pair 9 9) ∷ [])) true
    ∷ table_is (tabled (visiting 8 1 false 1 false InLink.Nothing OutLink.Nothing ∷ visiting 7 1 false 1 false InLink.Nothing OutLink.Nothing ∷ []) []) false
    ∷ table_is (tabled (visiting 7 1 false 1 false InLink.Nothing OutLink.Nothing ∷ visiting 7 1 false 1 false InLink.Nothing OutLink.Nothing ∷ []) []) false
    ∷ table_is (tabled (visiting 7 2880 false 1 false InLink.Nothing OutLink.Nothing ∷ []) []) false
    ∷ table_is (tabled (visiting 7 1 false 1 false (by 3 1) OutLink.Nothing ∷ []) []) false
    ∷ table_is (tabled (visiting 7 1 false 1 false (by 2 2) OutLink.Nothing ∷ []) []) false
    ∷ table_is (tabled (visiting 7 1 false 1 false InLink.Nothing (to 2 1 0) ∷ []) []) false
    ∷ table_is (tabled [] (Connection 5 (two 7 8) ∷ Connection 5 (two 7 8) ∷ [])) false
    ∷ table_is (tabled [] (Connection 5 (two 7 9) ∷ Connection 5 (two 7 8) ∷ [])) false
    ∷ table_is (tabled [] (Connection 5 (four 7 0 8 0) ∷ [])) false
    ∷ []

-- the central machine: 8 to 12, links, and relations that lose a train
pub edits : List Case
edits =
    -- 8, and before 12
    answered net (relate (Connection 5 (two 7 8)) ∷ relate (Connection 5 (two 7 8)) ∷ relate (Disconnection 5 (two 7 8)) ∷ []) (0 ∷ 0 ∷ 8 ∷ 0 ∷ 0 ∷ 0 ∷ [])
    ∷ answered_on (run_of (crowd 1 24)) (place 1 24 1 1 1 ∷ place 1 25 1 1 1 ∷ prepend (plan 1 25 1 1 1) 2 1 12 ∷ []) (8 ∷ 0 ∷ 12 ∷ 0 ∷ 9 ∷ 0 ∷ [])
    -- 9
    ∷ answered net (Amend (plan 1 7 1 1 1) ∷ arrives 1 7 1 ∷ departs 1 7 1 ∷ unrelate (Connection 5 (two 7 8)) ∷ prepend (plan 1 7 1 1 1) 2 1 12 ∷ append (plan 1 7 1 1 1) 2 1 12 ∷ delete_last 1 7 2 ∷ [])
    (9 ∷ 0 ∷ 9 ∷ 0 ∷ 9 ∷ 0 ∷ 9 ∷ 0 ∷ 9 ∷ 0 ∷ 9 ∷ 0 ∷ 9 ∷ 0 ∷ [])
    -- (s, t) there and (p, t) missing: 9, whatever the links
    ∷ answered net (place 1 7 1 1 1 ∷ delete_first 1 7 2 ∷ delete_last 1 7 2 ∷ delete_first 2 7 1 ∷ []) (0 ∷ 0 ∷ 9 ∷ 0 ∷ 9 ∷ 0 ∷ 9 ∷ 0 ∷ [])
    -- 10: a link is there already; a visit in the middle; a link that goes elsewhere
    ∷ answered branch (place 2 7 1 50 50 ∷ prepend (plan 1 7 1 30 30) 2 1 12 ∷ prepend (plan 3 7 1 30 30) 2 2 12 ∷ []) (0 ∷ 0 ∷ 0 ∷ 0 ∷ 10 ∷ 0 ∷ [])
    ∷ answered branch (place 2 7 1 50 50 ∷ append (plan 1 7 1 70 70) 2 3 12 ∷ append (plan 3 7 1 70 70) 2 4 12 ∷ []) (0 ∷ 0 ∷ 0 ∷ 0 ∷ 10 ∷ 0 ∷ [])
    ∷ answered branch (place 1 7 1 10 10 ∷ append (plan 2 7 1 30 30) 1 1 12 ∷ append (plan 3 7 1 50 50) 2 4 12
    ∷ delete_first 2 7 3 ∷ delete_last 2 7 1 ∷ delete_first 1 7 3 ∷ delete_last 3 7 1 ∷ delete_first 3 7 2 ∷ delete_first 1 7 2 ∷ delete_last 3 7 2 ∷ delete_train 7 ∷ [])
    (0 ∷ 0 ∷ 0 ∷ 0 ∷ 0 ∷ 0 ∷ 10 ∷ 0 ∷ 10 ∷ 0 ∷ 10 ∷ 0 ∷ 10 ∷ 0 ∷ 10 ∷ 0 ∷ 0 ∷ 1 ∷ 0 ∷ 1 ∷ 0 ∷ 1 ∷ [])
    -- the far link names another line
    ∷ answered_on (standing (tabled (visiting 7 100 false 100 false InLink.Nothing (to 2 1 12) ∷ []) []) (tabled (visiting 7 112 false 112 false (by 1 2) OutLink.Nothing ∷ []) []))
    (delete_first 1 7 2 ∷ delete_last 2 7 1 ∷ []) (10 ∷ 0 ∷ 10 ∷ 0 ∷ [])
    -- the run of the far out-link does not matter
    ∷ answered_on (standing (tabled (visiting 7 100 false 100 false InLink.Nothing (to 2 1 99) ∷ []) []) (tabled (visiting 7 112 false 112 false (by 1 1) OutLink.Nothing ∷ []) []))
    (delete_last 2 7 1 ∷ []) (0 ∷ 1 ∷ [])
    -- deleting clears the far link, so that the train can be put on again
    ∷ answered net (leaving 7 100 12 ++ (delete_last 2 7 1 ∷ append (plan 2 7 1 115 115) 1 1 12 ∷ delete_first 1 7 2 ∷ prepend (plan 1 7 1 100 100) 2 1 12 ∷ []))
    (0 ∷ 0 ∷ 0 ∷ 0 ∷ 0 ∷ 1 ∷ 0 ∷ 0 ∷ 0 ∷ 1 ∷ 0 ∷ 0 ∷ [])
    -- 11: an occurred time, the track after an occurred arrival; equal values alter nothing
    ∷ answered net (place 1 7 1 100 102 ∷ arrives 1 7 100 ∷ Amend (plan 1 7 1 101 102) ∷ Amend (plan 1 7 2 100 102) ∷ Amend (plan 1 7 1 100 103) ∷ arrives 1 7 99 ∷ Amend (plan 1 7 1 99 103) ∷ [])
    (0 ∷ 0 ∷ 0 ∷ 0 ∷ 11 ∷ 0 ∷ 11 ∷ 0 ∷ 0 ∷ 0 ∷ 0 ∷ 0 ∷ 0 ∷ 0 ∷ [])
    ∷ answered net (place 1 7 1 100 102 ∷ departs 1 7 102 ∷ Amend (plan 1 7 2 99 102) ∷ Amend (plan 1 7 2 99 103) ∷ []) (0 ∷ 0 ∷ 0 ∷ 0 ∷ 0 ∷ 0 ∷ 11 ∷ 0 ∷ [])
    -- the seventh relation
    ∷ answered net (connections 7) (0 ∷ 0 ∷ 0 ∷ 0 ∷ 0 ∷ 0 ∷ 0 ∷ 0 ∷ 0 ∷ 0 ∷ 0 ∷ 0 ∷ 12 ∷ 0 ∷ [])
    -- edit 11 counts what it removes, and is never 9
    ∷ answered net (leaving 7 100 12 ++ (delete_train 7 ∷ delete_train 7 ∷ [])) (0 ∷ 0 ∷ 0 ∷ 0 ∷ 0 ∷ 2 ∷ 0 ∷ 0 ∷ [])
    -- a relation of two trains vanishes, one of three stays; a dependency with the train vanishes; trains need not
    -- visit
    ∷ related (relate (Connection 5 (two 7 9)) ∷ relate (Disconnection 5 (four 7 8 9 0)) ∷ relate (Dependency 5 (pair 9 7)) ∷ relate (Dependency 6 (pair 7 9)) ∷ delete_train 9 ∷ [])
    (Disconnection 5 (two 7 8) ∷ [])
    -- losing a train moves a relation up in the order
    ∷ related (relate (Connection 5 (four 7 8 9 0)) ∷ relate (Connection 5 (two 8 10)) ∷ delete_train 9 ∷ []) (Connection 5 (two 7 8) ∷ Connection 5 (two 8 10) ∷ [])
    -- edits 4 and 5 take t from the relations at s, and from no others
    ∷ related (leaving 7 100 12 ++ (relate (Dependency 4 (pair 7 7)) ∷ relate (Connection 5 (four 6 7 8 0)) ∷ relate (Connection 5 (two 6 8)) ∷ delete_first 1 7 2 ∷ [])) (Connection 5 (two 6 8) ∷ [])
    ∷ related (leaving 7 100 12 ++ (relate (Dependency 4 (pair 7 7)) ∷ delete_last 2 7 1 ∷ [])) (Dependency 4 (pair 7 7) ∷ [])
    ∷ related (relate (Connection 5 (two 7 8)) ∷ relate (Connection 6 (two 7 8)) ∷ unrelate (Connection 5 (two 7 8)) ∷ []) (Connection 6 (two 7 8) ∷ [])
    -- the order of relations: kind, interval, count of trains, trains
    ∷ ordered (Connection 240 (two 8 9) ∷ Disconnection 0 (two 1 2) ∷ Dependency 0 (pair 2 1) ∷ []) true
    ∷ ordered (Connection 4 (four 1 2 3 0) ∷ Connection 5 (two 1 2) ∷ []) true
    ∷ ordered (Connection 5 (two 8 9) ∷ Connection 5 (four 1 2 3 0) ∷ []) true
    ∷ ordered (Connection 5 (four 1 2 3 0) ∷ Connection 5 (four 1 2 4 0) ∷ Connection 5 (four 1 2 3 4) ∷ []) true
    ∷ ordered (Dependency 5 (pair 7 9) ∷ Dependency 5 (pair 8 1) ∷ []) true
    ∷ ordered (Connection 5 (two 7 8) ∷ Connection 5 (two 7 8) ∷ []) false
    ∷ []

-- rules 1 to 3 and 5 to 10 at their bounds
pub rules : List Case
rules =
    -- 1
    found net (place 1 7 1 100 100 ∷ []) (finding (st 1) 1 7 0) false
    ∷ found net (place 1 7 1 100 99 ∷ []) (finding (st 1) 1 7 0) true
    ∷ found net (place 1 7 1 100 102 ∷ departs 1 7 102 ∷ []) (finding (st 1) 1 7 0) true
    ∷ found net (place 1 7 1 100 102 ∷ arrives 1 7 100 ∷ departs 1 7 102 ∷ []) (finding (st 1) 1 7 0) false
    -- 2: the other way round; another track
    ∷ found net (place 1 8 1 100 102 ∷ place 1 7 1 102 104 ∷ []) (finding (st 1) 2 7 8) true
    ∷ found net (place 1 8 1 100 102 ∷ place 1 7 1 103 104 ∷ []) (finding (st 1) 2 7 8) false
    ∷ found net (place 1 7 1 100 102 ∷ place 1 8 2 102 104 ∷ []) (finding (st 1) 2 7 8) false
    -- 3: one departed, both departed; another line
    ∷ found net (leaving 7 102 12 ++ leaving 8 104 12 ++ (departs 1 7 102 ∷ [])) (finding (st 1) 3 7 8) true
    ∷ found net (leaving 7 102 12 ++ leaving 8 104 12 ++ (departs 1 7 102 ∷ departs 1 8 104 ∷ [])) (finding (st 1) 3 7 8) false
    ∷ found branch (leaving 7 102 12 ++ (place 2 8 2 114 114 ∷ prepend (plan 1 8 1 102 102) 2 3 12 ∷ [])) (finding (st 1) 3 7 8) false
    -- 5
    ∷ found net (leaving 7 100 10) (finding (st 1) 5 7 0) false
    ∷ found net (leaving 7 100 9) (finding (st 1) 5 7 0) true
    -- 6: an equal departure is not ahead; caught up at the same minute, or not; trains are counted, not times; statuses
    ∷ found net (leaving 7 100 12 ++ leaving 8 100 12) (finding (st 1) 6 8 0) false
    ∷ found (with_capacity 2) (leaving 7 100 20 ++ leaving 8 110 10) (finding (st 1) 6 8 0) true
    ∷ found (with_capacity 2) (leaving 7 100 20 ++ leaving 8 110 11) (finding (st 1) 6 8 0) false
    ∷ found (with_capacity 2) (leaving 7 100 12 ++ leaving 9 100 12 ++ leaving 8 105 12) (finding (st 1) 6 8 0) true
    ∷ found (with_capacity 3) (leaving 7 100 12 ++ leaving 9 100 12 ++ leaving 8 105 12) (finding (st 1) 6 8 0) false
    ∷ found net (leaving 7 100 12 ++ leaving 8 111 12 ++ (departs 1 7 100 ∷ [])) (finding (st 1) 6 8 0) true
    ∷ found net (leaving 7 100 12 ++ leaving 8 111 12 ++ (departs 1 8 111 ∷ [])) (finding (st 1) 6 8 0) false
    -- 7 and 8: the far visit is missing, comes from elsewhere, by another line; the run does not matter
    ∷ stands net (standing (tabled (visiting 7 100 false 102 false InLink.Nothing (to 2 1 12) ∷ []) []) bare) (finding (st 1) 7 7 0) true
    ∷ stands net (standing (tabled (visiting 7 100 false 102 false InLink.Nothing (to 2 1 12) ∷ []) []) (tabled (visiting 7 114 false 114 false InLink.Nothing OutLink.Nothing ∷ []) [])) (finding (st 1) 7 7 0) true
    ∷ stands branch (standing (tabled (visiting 7 100 false 102 false InLink.Nothing (to 2 1 12) ∷ []) []) (tabled (visiting 7 114 false 114 false (by 1 3) OutLink.Nothing ∷ []) [])) (finding (st 1) 7 7 0) true
    ∷ stands branch (standing (tabled (visiting 7 100 false 102 false InLink.Nothing (to 2 1 12) ∷ []) []) (tabled (visiting 7 114 false 114 false (by 3 1) OutLink.Nothing ∷ []) [])) (finding (st 1) 7 7 0) true
    ∷ found net (leaving 7 100 12) (finding (st 1) 7 7 0) false
    ∷ found net (leaving 7 100 12) (finding (st 2) 8 7 0) false
    ∷ stands net (standing bare (tabled (visiting 7 114 false 114 false (by 1 1) OutLink.Nothing ∷ []) [])) (finding (st 2) 8 7 0) true
    ∷ stands branch (standing (tabled (visiting 7 100 false 102 false InLink.Nothing (to 2 3 12) ∷ []) []) (tabled (visiting 7 114 false 114 false (by 1 1) OutLink.Nothing ∷ []) [])) (finding (st 2) 8 7 0) true
    -- 9: equal; the far arrival occurred; the link not answered
    ∷ found net (leaving 7 100 12) (finding (st 1) 9 7 0) false
    ∷ found net (place 1 7 1 100 102 ∷ append (plan 2 7 1 113 113) 1 1 12 ∷ []) (finding (st 1) 9 7 0) true
    ∷ found net (place 1 7 1 100 102 ∷ append (plan 2 7 1 115 115) 1 1 12 ∷ arrives 2 7 115 ∷ []) (finding (st 1) 9 7 0) false
    ∷ found net (place 1 7 1 100 102 ∷ append (plan 2 7 1 115 115) 1 1 12 ∷ departs 1 7 102 ∷ []) (finding (st 1) 9 7 0) true
    ∷ stands net (standing (tabled (visiting 7 100 false 102 false InLink.Nothing (to 2 1 12) ∷ []) []) (tabled (visiting 7 115 false 115 false InLink.Nothing OutLink.Nothing ∷ []) [])) (finding (st 1) 9 7 0) false
    -- 10: departs after t is through, or not; the answered arrival counts, else departure + run; at both ends;
    -- statuses; the same train; kind 3 only
    ∷ found net (leaving 7 100 12 ++ inbound 8 125) (finding (st 1) 10 7 8) false
    ∷ found net (leaving 7 100 12 ++ inbound 8 124) (finding (st 1) 10 7 8) true
    ∷ found net (leaving 7 100 12 ++ inbound 8 124) (finding (st 2) 10 8 7) true
    ∷ found net (leaving 7 100 12 ++ (place 2 8 1 88 88 ∷ append (plan 1 8 2 99 99) 2 1 12 ∷ [])) (finding (st 1) 10 7 8) false
    ∷ found net (leaving 7 100 12 ++ (place 2 8 1 88 88 ∷ append (plan 1 8 2 99 101) 2 1 12 ∷ [])) (finding (st 1) 10 7 8) false
    ∷ stands net (standing (tabled (visiting 7 100 false 100 false InLink.Nothing (to 2 1 12) ∷ visiting 8 99 false 99 false InLink.Nothing OutLink.Nothing ∷ []) []) (tabled (visiting 8 88 false 88 false InLink.Nothing (to 1 1 12) ∷ []) [])) (finding (st 1) 10 7 8) true
    ∷ stands net (standing (tabled (visiting 7 100 false 100 false InLink.Nothing (to 2 1 12) ∷ []) []) (tabled (visiting 8 88 false 88 false InLink.Nothing (to 1 1 11) ∷ []) [])) (finding (st 1) 10 7 8) false
    ∷ found net (leaving 7 100 12 ++ inbound 8 100 ++ (departs 2 8 88 ∷ [])) (finding (st 1) 10 7 8) true
    ∷ found net (leaving 7 100 12 ++ inbound 8 100 ++ (departs 1 7 100 ∷ [])) (finding (st 1) 10 7 8) false
    ∷ stands net (standing (tabled (visiting 7 100 false 100 false (by 2 1) (to 2 1 12) ∷ []) []) (tabled (visiting 7 112 false 112 false (by 1 1) (to 1 1 12) ∷ []) [])) (finding (st 1) 10 7 7) false
    ∷ stands branch (standing (tabled (visiting 7 100 false 100 false InLink.Nothing (to 2 1 12) ∷ []) []) (tabled (visiting 8 100 false 100 false InLink.Nothing (to 1 1 12) ∷ []) [])) (finding (st 1) 10 7 8) false
    ∷ stands branch (standing (tabled (visiting 7 100 false 100 false InLink.Nothing (to 2 3 12) ∷ []) []) (tabled (visiting 8 100 false 100 false InLink.Nothing (to 1 3 12) ∷ []) [])) (finding (st 1) 10 7 8) true
    ∷ stands branch (standing (tabled (visiting 7 100 false 100 false InLink.Nothing (to 2 3 12) ∷ []) []) (tabled (visiting 8 100 false 100 false InLink.Nothing (to 3 4 12) ∷ []) [])) (finding (st 1) 10 7 8) false
    -- the lists of areas and pairs
    ∷ area_has net (run_of listed_edits) 1 (1 ∷ 4 ∷ 1 ∷ 0 ∷ [])
    ∷ area_has net (run_of listed_edits) 2 []
    ∷ pair_has net (run_of listed_edits) 1 2 (1 ∷ 9 ∷ 7 ∷ 0 ∷ [])
    ∷ pair_has net (run_of listed_edits) 2 1 (1 ∷ 9 ∷ 7 ∷ 0 ∷ [])
    ∷ []

-- rule 4
pub relations : List Case
relations =
    -- a train that does not visit; one that does not stop; departures occurred, one or both
    found net (place 1 7 1 100 110 ∷ relate (Connection 5 (two 7 8)) ∷ []) (finding (st 1) 4 1 0) true
    ∷ stands net (standing (tabled (visiting 7 105 false 105 false (by 2 1) (to 2 1 12) ∷ visiting 8 100 false 110 false InLink.Nothing OutLink.Nothing ∷ []) (Connection 0 (two 7 8) ∷ [])) bare) (finding (st 1) 4 1 0) true
    ∷ stands net (standing (tabled (visiting 7 105 false 105 false (by 2 1) OutLink.Nothing ∷ visiting 8 100 false 110 false InLink.Nothing OutLink.Nothing ∷ []) (Connection 0 (two 7 8) ∷ [])) bare) (finding (st 1) 4 1 0) false
    ∷ found net (place 1 7 1 100 110 ∷ place 1 8 2 106 112 ∷ relate (Connection 5 (two 7 8)) ∷ departs 1 7 110 ∷ []) (finding (st 1) 4 1 0) true
    ∷ found net (place 1 7 1 100 110 ∷ place 1 8 2 106 112 ∷ relate (Connection 5 (two 7 8)) ∷ departs 1 7 110 ∷ departs 1 8 112 ∷ []) (finding (st 1) 4 1 0) false
    -- every two of three
    ∷ found net (place 1 7 1 100 110 ∷ place 1 8 2 105 112 ∷ place 1 9 2 106 120 ∷ relate (Connection 5 (four 7 8 9 0)) ∷ []) (finding (st 1) 4 1 0) true
    ∷ found net (place 1 7 1 100 110 ∷ place 1 8 2 105 112 ∷ place 1 9 2 105 120 ∷ relate (Connection 5 (four 7 8 9 0)) ∷ []) (finding (st 1) 4 1 0) false
    -- the last two of four
    ∷ found net (place 1 7 1 100 120 ∷ place 1 8 1 100 120 ∷ place 1 9 1 100 112 ∷ place 1 10 1 108 120 ∷ relate (Connection 5 (four 7 8 9 10)) ∷ []) (finding (st 1) 4 1 0) true
    -- disconnection: the gap either way; both arrived; one that does not stop; one that does not visit
    ∷ found net (place 1 7 1 100 110 ∷ place 1 8 2 114 120 ∷ relate (Disconnection 5 (two 7 8)) ∷ []) (finding (st 1) 4 1 0) true
    ∷ found net (place 1 7 1 100 110 ∷ place 1 8 2 115 120 ∷ relate (Disconnection 5 (two 7 8)) ∷ []) (finding (st 1) 4 1 0) false
    ∷ found net (place 1 7 1 125 130 ∷ place 1 8 2 114 120 ∷ relate (Disconnection 5 (two 7 8)) ∷ []) (finding (st 1) 4 1 0) false
    ∷ found net (place 1 7 1 124 130 ∷ place 1 8 2 114 120 ∷ relate (Disconnection 5 (two 7 8)) ∷ []) (finding (st 1) 4 1 0) true
    ∷ found net (place 1 7 1 100 110 ∷ place 1 8 2 114 120 ∷ relate (Disconnection 5 (two 7 8)) ∷ arrives 1 7 100 ∷ []) (finding (st 1) 4 1 0) true
    ∷ found net (place 1 7 1 100 110 ∷ place 1 8 2 114 120 ∷ relate (Disconnection 5 (two 7 8)) ∷ arrives 1 7 100 ∷ arrives 1 8 114 ∷ []) (finding (st 1) 4 1 0) false
    ∷ stands net (standing (tabled (visiting 7 105 false 105 false (by 2 1) (to 2 1 12) ∷ visiting 8 100 false 110 false InLink.Nothing OutLink.Nothing ∷ []) (Disconnection 5 (two 7 8) ∷ [])) bare) (finding (st 1) 4 1 0) false
    ∷ found net (place 1 7 1 100 110 ∷ relate (Disconnection 5 (two 7 8)) ∷ []) (finding (st 1) 4 1 0) true
    -- dependency: departed, it is met; the arriver's arrival counts, not its own
    ∷ found net (place 1 7 1 100 103 ∷ relate (Dependency 4 (pair 7 7)) ∷ departs 1 7 103 ∷ []) (finding (st 1) 4 1 0) false
    ∷ found net (place 1 7 1 100 103 ∷ place 1 8 2 90 104 ∷ relate (Dependency 4 (pair 7 8)) ∷ []) (finding (st 1) 4 1 0) false
    ∷ found net (place 1 7 1 100 103 ∷ place 1 8 2 90 104 ∷ relate (Dependency 5 (pair 7 8)) ∷ []) (finding (st 1) 4 1 0) true
    -- the departer has departed, and the arriver alone
    ∷ found net (place 1 7 1 100 103 ∷ place 1 8 2 90 104 ∷ relate (Dependency 5 (pair 7 8)) ∷ departs 1 8 104 ∷ []) (finding (st 1) 4 1 0) false
    ∷ found net (place 1 7 1 100 103 ∷ place 1 8 2 90 104 ∷ relate (Dependency 5 (pair 7 8)) ∷ departs 1 7 103 ∷ []) (finding (st 1) 4 1 0) true
    ∷ stands net (standing (tabled (visiting 7 105 true 105 true (by 2 1) (to 2 1 12) ∷ []) (Dependency 0 (pair 7 7) ∷ [])) bare) (finding (st 1) 4 1 0) true
    -- the rank counts the met ones too
    ∷ found net (place 1 7 1 100 110 ∷ relate (Dependency 4 (pair 7 7)) ∷ relate (Dependency 11 (pair 7 7)) ∷ []) (finding (st 1) 4 2 0) true
    ∷ found net (place 1 7 1 100 110 ∷ relate (Dependency 4 (pair 7 7)) ∷ relate (Dependency 11 (pair 7 7)) ∷ []) (finding (st 1) 4 1 0) false
    ∷ []

-- numbers of files, projections and the tally
pub others : List Case
others =
    bytes 0 (0 ∷ [])
    ∷ bytes 127 (0x7f ∷ [])
    ∷ bytes 128 (0x80 ∷ 0x01 ∷ [])
    ∷ bytes 16383 (0xff ∷ 0x7f ∷ [])
    ∷ bytes 16384 (0x80 ∷ 0x80 ∷ 0x01 ∷ [])
    ∷ bytes 2097151 (0xff ∷ 0xff ∷ 0x7f ∷ [])
    ∷ unread [] 1
    ∷ unread (0x80 ∷ []) 1
    ∷ unread (0x80 ∷ 0x80 ∷ []) 1
    ∷ unread (0x80 ∷ 0x80 ∷ 0x80 ∷ []) 2
    ∷ unread (0x80 ∷ 0x80 ∷ 0x80 ∷ 0x01 ∷ []) 2
    ∷ unread (0x80 ∷ 0x80 ∷ 0x00 ∷ []) 2
    -- late and early, one that does not stop, times that stand, a link that is not answered, a train that is not there
    ∷ projected (run_of listed_edits) 7 1 105 (1 ∷ 105 ∷ 106 ∷ 0 ∷ 5 ∷ 2 ∷ 118 ∷ 119 ∷ 0 ∷ 3 ∷ [])
    ∷ projected (run_of listed_edits) 7 1 90 (1 ∷ 90 ∷ 102 ∷ 1 ∷ 10 ∷ 2 ∷ 114 ∷ 115 ∷ 1 ∷ 1 ∷ [])
    ∷ projected (run_of listed_edits) 7 1 101 (1 ∷ 101 ∷ 102 ∷ 0 ∷ 1 ∷ 2 ∷ 114 ∷ 115 ∷ 1 ∷ 1 ∷ [])
    ∷ projected (run_of (place 1 7 1 100 102 ∷ append (plan 2 7 1 115 115) 1 1 12 ∷ arrives 1 7 100 ∷ [])) 7 1 130 (1 ∷ 100 ∷ 102 ∷ 0 ∷ 0 ∷ 2 ∷ 114 ∷ 115 ∷ 1 ∷ 1 ∷ [])
    ∷ projected (run_of (place 1 7 1 100 102 ∷ append (plan 2 7 1 115 115) 1 1 12 ∷ departs 1 7 101 ∷ [])) 7 1 130 (1 ∷ 130 ∷ 101 ∷ 0 ∷ 30 ∷ 2 ∷ 113 ∷ 115 ∷ 1 ∷ 2 ∷ [])
    ∷ projected (run_of (place 1 7 1 100 102 ∷ append (plan 2 7 1 115 115) 1 1 12 ∷ arrives 2 7 120 ∷ [])) 7 1 130 (1 ∷ 130 ∷ 131 ∷ 0 ∷ 30 ∷ 2 ∷ 120 ∷ 121 ∷ 0 ∷ 0 ∷ [])
    ∷ projected (standing (tabled (visiting 7 100 false 102 false InLink.Nothing (to 2 1 12) ∷ []) []) bare) 7 1 100 (1 ∷ 100 ∷ 102 ∷ 0 ∷ 0 ∷ [])
    ∷ projected nothing_placed 7 1 100 []
    -- a ring goes round until 16 rows
    ∷ projected (standing (tabled (visiting 7 100 false 100 false (by 2 1) (to 2 1 12) ∷ []) []) (tabled (visiting 7 112 false 112 false (by 1 1) (to 1 1 12) ∷ []) [])) 7 1 100
    (1 ∷ 100 ∷ 100 ∷ 0 ∷ 0 ∷ 2 ∷ 112 ∷ 112 ∷ 0 ∷ 0 ∷ 1 ∷ 124 ∷ 124 ∷ 0 ∷ 24 ∷ 2 ∷ 136 ∷ 136 ∷ 0 ∷ 24 ∷ 1 ∷ 148 ∷ 148 ∷ 0 ∷ 48 ∷ 2 ∷ 160 ∷ 160 ∷ 0 ∷ 48 ∷ 1 ∷ 172 ∷ 172 ∷ 0 ∷ 72 ∷ 2 ∷ 184 ∷ 184 ∷ 0 ∷ 72 ∷ 1 ∷ 196 ∷ 196 ∷ 0 ∷ 96 ∷ 2 ∷ 208 ∷ 208 ∷ 0 ∷ 96 ∷ 1 ∷ 220 ∷ 220 ∷ 0 ∷ 120 ∷ 2 ∷ 232 ∷ 232 ∷ 0 ∷ 120 ∷ 1 ∷ 244 ∷ 244 ∷ 0 ∷ 144 ∷ 2 ∷ 256 ∷ 256 ∷ 0 ∷ 144 ∷ 1 ∷ 268 ∷ 268 ∷ 0 ∷ 168 ∷ 2 ∷ 280 ∷ 280 ∷ 0 ∷ 168 ∷ [])
    -- the tally: kinds that add, refusals, 5, the bounds of 3 and 5
    ∷ tallied (counted 0 0 0 0) (place 1 7 1 1 1) (told 0 0) (0 ∷ 65 ∷ 1 ∷ 0 ∷ 1 ∷ 0 ∷ [])
    ∷ tallied (counted 1 2 3 4) (prepend (plan 1 7 1 1 1) 2 1 12) (told 0 0) (0 ∷ 65 ∷ 2 ∷ 2 ∷ 4 ∷ 4 ∷ [])
    ∷ tallied (counted 1 2 3 4) (append (plan 1 7 1 1 1) 2 1 12) (told 0 0) (0 ∷ 65 ∷ 2 ∷ 2 ∷ 4 ∷ 4 ∷ [])
    ∷ tallied (counted 1 2 3 4) (Amend (plan 1 7 1 1 1)) (told 0 0) (0 ∷ 65 ∷ 2 ∷ 2 ∷ 3 ∷ 4 ∷ [])
    ∷ tallied (counted 1 2 3 4) (delete_first 1 7 2) (told 0 1) (0 ∷ 65 ∷ 2 ∷ 2 ∷ 3 ∷ 5 ∷ [])
    ∷ tallied (counted 1 2 3 4) (delete_train 7) (told 0 16) (0 ∷ 65 ∷ 2 ∷ 2 ∷ 3 ∷ 20 ∷ [])
    ∷ tallied (counted 1 2 3 4) (delete_train 7) (told 0 17) (3 ∷ 65 ∷ 1 ∷ 2 ∷ 3 ∷ 4 ∷ [])
    ∷ tallied (counted 1 2 3 4) (place 1 7 1 1 1) (told 8 0) (0 ∷ 65 ∷ 1 ∷ 3 ∷ 3 ∷ 4 ∷ [])
    ∷ tallied (counted 1 2 3 4) (delete_first 1 7 2) (told 9 1) (3 ∷ 65 ∷ 1 ∷ 2 ∷ 3 ∷ 4 ∷ [])
    ∷ tallied (counted 1 2 3 4) (place 1 7 1 1 1) (told 5 0) (0 ∷ 65 ∷ 1 ∷ 2 ∷ 3 ∷ 4 ∷ [])
    ∷ tallied (counted 1000000 0 0 0) (place 1 7 1 1 1) (told 0 0) (0 ∷ 65 ∷ 1000001 ∷ 0 ∷ 1 ∷ 0 ∷ [])
    ∷ tallied (counted 1000001 0 0 0) (place 1 7 1 1 1) (told 0 17) (5 ∷ 65 ∷ 1000001 ∷ 0 ∷ 0 ∷ 0 ∷ [])
    ∷ tallied (counted 0 0 0 1000001) (place 1 7 1 1 1) (told 0 0) (5 ∷ 65 ∷ 0 ∷ 0 ∷ 0 ∷ 1000001 ∷ [])
    ∷ []

-- files
pub files : List Case
files =
    -- networks: read, empty, goes on, ends early, ends within a number
    network_file (bytes_of net_numbers) (0 ∷ size net_numbers ∷ net_numbers)
    ∷ network_file (bytes_of (one_station 16 6 8 30)) (0 ∷ size (one_station 16 6 8 30) ∷ one_station 16 6 8 30)
    ∷ network_file [] (1 ∷ 0 ∷ [])
    ∷ network_file (bytes_of (net_numbers ++ (0 ∷ []))) (1 ∷ size net_numbers ∷ [])
    ∷ network_file (bytes_of (net_numbers ++ (0 ∷ 0 ∷ []))) (1 ∷ size net_numbers ∷ [])
    ∷ network_file (bytes_of (cut net_numbers)) (1 ∷ size (cut net_numbers) ∷ [])
    ∷ network_file (bytes_of (cut net_numbers) ++ (129 ∷ [])) (1 ∷ size net_numbers ∷ [])
    -- a number that is not shortest, one of four bytes, one whose third byte has the top bit set and that ends there
    ∷ network_file (2 ∷ 1 ∷ 129 ∷ 0 ∷ 2 ∷ 2 ∷ 2 ∷ 1 ∷ 3 ∷ 1 ∷ 1 ∷ 1 ∷ 2 ∷ 3 ∷ 10 ∷ 1 ∷ []) (2 ∷ 2 ∷ [])
    ∷ network_file (128 ∷ 128 ∷ 128 ∷ 1 ∷ []) (2 ∷ 0 ∷ [])
    ∷ network_file (2 ∷ 1 ∷ 128 ∷ 128 ∷ 128 ∷ []) (2 ∷ 2 ∷ [])
    -- ranges, the value above its range written as it should be; the first faulty number decides
    ∷ network_file (bytes_of (0 ∷ [])) (3 ∷ 0 ∷ [])
    ∷ network_file (bytes_of (17 ∷ [])) (3 ∷ 0 ∷ [])
    ∷ network_file (bytes_of (one_station 17 1 1 3)) (3 ∷ 1 ∷ [])
    ∷ network_file (bytes_of (one_station 0 1 1 3)) (3 ∷ 1 ∷ [])
    ∷ network_file (bytes_of (one_station 1 7 1 3)) (3 ∷ 2 ∷ [])
    ∷ network_file (bytes_of (one_station 1 1 9 3)) (3 ∷ 3 ∷ [])
    ∷ network_file (bytes_of (one_station 1 1 8 31)) (3 ∷ headway_place ∷ [])
    ∷ network_file (bytes_of (one_station 1 1 8 0)) (3 ∷ headway_place ∷ [])
    ∷ network_file (bytes_of (up_to_lines (station_row 1 1 8 ∷ []) 3 33)) (3 ∷ (headway_place + 1) ∷ [])
    ∷ network_file (bytes_of (up_to_lines (station_row 300 0 8 ∷ []) 3 33)) (3 ∷ 1 ∷ [])
    ∷ network_file (bytes_of (up_to_lines (station_row 1 300 8 ∷ []) 3 33)) (3 ∷ 2 ∷ [])
    ∷ network_file (bytes_of (joined_by (line_row 1 1 2 4 10 1 ∷ []))) (3 ∷ (first_line + 3) ∷ [])
    ∷ network_file (bytes_of (joined_by (line_row 1 1 2 3 241 1 ∷ []))) (3 ∷ (first_line + 4) ∷ [])
    ∷ network_file (bytes_of (joined_by (line_row 1 1 2 3 240 10 ∷ []))) (3 ∷ (first_line + 8) ∷ [])
    ∷ network_file (bytes_of (joined_by (line_row 1 17 2 3 10 1 ∷ []))) (3 ∷ (first_line + 1) ∷ [])
    -- stations in falling order, equal ones; lines likewise
    ∷ network_file (bytes_of (network_row (station_row 2 1 2 ∷ station_row 1 2 1 ∷ []) 3 (line_row 1 1 2 3 10 1 ∷ []))) (3 ∷ 4 ∷ [])
    ∷ network_file (bytes_of (network_row (station_row 1 1 2 ∷ station_row 1 2 1 ∷ []) 3 (line_row 1 1 2 3 10 1 ∷ []))) (3 ∷ 4 ∷ [])
    ∷ network_file (bytes_of (joined_by (line_row 2 1 2 3 10 1 ∷ line_row 1 1 2 3 10 1 ∷ []))) (3 ∷ second_line ∷ [])
    ∷ network_file (bytes_of (joined_by (line_row 2 1 2 3 10 1 ∷ line_row 2 1 2 3 10 1 ∷ []))) (3 ∷ second_line ∷ [])
    ∷ network_file (bytes_of (joined_by (line_row 2 1 2 3 10 1 ∷ line_row 3 1 2 3 10 1 ∷ []))) (0 ∷ size (joined_by (line_row 2 1 2 3 10 1 ∷ line_row 3 1 2 3 10 1 ∷ [])) ∷ joined_by (line_row 2 1 2 3 10 1 ∷ line_row 3 1 2 3 10 1 ∷ []))
    -- equal ends, ends not listed: at the line's first byte, but a faulty number or a byte too many behind it comes
    -- first
    ∷ network_file (bytes_of (joined_by (line_row 1 1 1 3 10 1 ∷ []))) (4 ∷ first_line ∷ [])
    ∷ network_file (bytes_of (joined_by (line_row 1 1 3 3 10 1 ∷ []))) (4 ∷ first_line ∷ [])
    ∷ network_file (bytes_of (joined_by (line_row 1 3 1 3 10 1 ∷ []))) (4 ∷ first_line ∷ [])
    ∷ network_file (bytes_of (joined_by (line_row 1 1 2 3 10 1 ∷ line_row 2 3 1 3 10 1 ∷ []))) (4 ∷ second_line ∷ [])
    ∷ network_file (bytes_of (joined_by (line_row 1 1 1 3 10 1 ∷ line_row 2 3 1 3 10 1 ∷ []))) (4 ∷ first_line ∷ [])
    ∷ network_file (bytes_of (joined_by (line_row 1 1 1 3 10 1 ∷ line_row 2 1 2 3 10 10 ∷ []))) (3 ∷ (second_line + 6) ∷ [])
    ∷ network_file (bytes_of (loop_numbers ++ (0 ∷ []))) (1 ∷ size loop_numbers ∷ [])
    -- edits: one of each kind, none, too many, kinds
    ∷ edits_file (bytes_of each_kind) (0 ∷ size each_kind ∷ 1 ∷ each_kind)
    ∷ edits_file (bytes_of (0 ∷ [])) (0 ∷ 1 ∷ 1 ∷ 0 ∷ [])
    ∷ edits_file [] (1 ∷ 0 ∷ [])
    ∷ edits_file (bytes_of (1001 ∷ [])) (3 ∷ 0 ∷ [])
    ∷ edits_file (bytes_of (1 ∷ [])) (1 ∷ 1 ∷ [])
    ∷ edits_file (bytes_of (0 ∷ 0 ∷ [])) (1 ∷ 1 ∷ [])
    ∷ edits_file (bytes_of (1 ∷ 0 ∷ [])) (3 ∷ 1 ∷ [])
    ∷ edits_file (bytes_of (1 ∷ 12 ∷ [])) (3 ∷ 1 ∷ [])
    -- ranges of edits, at the first faulty number
    ∷ edits_file (bytes_of (1 ∷ 1 ∷ 17 ∷ 7 ∷ 1 ∷ 0 ∷ 100 ∷ 102 ∷ [])) (3 ∷ 2 ∷ [])
    ∷ early_edits_file (bytes_of (1 ∷ 1 ∷ 17 ∷ 7 ∷ 1 ∷ 100 ∷ 102 ∷ [])) (3 ∷ 2 ∷ [])
    ∷ edits_file (bytes_of (1 ∷ 1 ∷ 16 ∷ 10000 ∷ 9 ∷ 0 ∷ 2880 ∷ 2880 ∷ [])) (3 ∷ 3 ∷ [])
    ∷ early_edits_file (bytes_of (1 ∷ 1 ∷ 16 ∷ 10000 ∷ 9 ∷ 2880 ∷ 2880 ∷ [])) (3 ∷ 3 ∷ [])
    ∷ edits_file (bytes_of (1 ∷ 1 ∷ 16 ∷ 9999 ∷ 9 ∷ 0 ∷ 2880 ∷ 2880 ∷ [])) (3 ∷ 5 ∷ [])
    ∷ early_edits_file (bytes_of (1 ∷ 1 ∷ 16 ∷ 9999 ∷ 9 ∷ 2880 ∷ 2880 ∷ [])) (3 ∷ 5 ∷ [])
    ∷ edits_file (bytes_of (1 ∷ 1 ∷ 16 ∷ 9999 ∷ 8 ∷ 0 ∷ 2880 ∷ 2880 ∷ [])) (3 ∷ 7 ∷ [])
    ∷ early_edits_file (bytes_of (1 ∷ 1 ∷ 16 ∷ 9999 ∷ 8 ∷ 2880 ∷ 2880 ∷ [])) (3 ∷ 6 ∷ [])
    ∷ edits_file (bytes_of (1 ∷ 1 ∷ 16 ∷ 9999 ∷ 8 ∷ 0 ∷ 2879 ∷ 2880 ∷ [])) (3 ∷ 9 ∷ [])
    ∷ early_edits_file (bytes_of (1 ∷ 1 ∷ 16 ∷ 9999 ∷ 8 ∷ 2879 ∷ 2880 ∷ [])) (3 ∷ 8 ∷ [])
    ∷ edits_file (bytes_of (1 ∷ 1 ∷ 16 ∷ 9999 ∷ 8 ∷ 0 ∷ 2879 ∷ 2879 ∷ [])) (0 ∷ 11 ∷ 1 ∷ 1 ∷ 1 ∷ 16 ∷ 9999 ∷ 8 ∷ 0 ∷ 2879 ∷ 2879 ∷ [])
    ∷ early_edits_file (bytes_of (1 ∷ 1 ∷ 16 ∷ 9999 ∷ 8 ∷ 2879 ∷ 2879 ∷ [])) (0 ∷ 10 ∷ 1 ∷ 1 ∷ 1 ∷ 16 ∷ 9999 ∷ 8 ∷ 0 ∷ 2879 ∷ 2879 ∷ [])
    ∷ edits_file (bytes_of (1 ∷ 2 ∷ 1 ∷ 7 ∷ 1 ∷ 0 ∷ 1 ∷ 1 ∷ 17 ∷ 33 ∷ 0 ∷ [])) (3 ∷ 8 ∷ [])
    ∷ early_edits_file (bytes_of (1 ∷ 2 ∷ 1 ∷ 7 ∷ 1 ∷ 1 ∷ 1 ∷ 17 ∷ 33 ∷ 0 ∷ [])) (3 ∷ 7 ∷ [])
    ∷ edits_file (bytes_of (1 ∷ 2 ∷ 1 ∷ 7 ∷ 1 ∷ 0 ∷ 1 ∷ 1 ∷ 16 ∷ 33 ∷ 0 ∷ [])) (3 ∷ 9 ∷ [])
    ∷ early_edits_file (bytes_of (1 ∷ 2 ∷ 1 ∷ 7 ∷ 1 ∷ 1 ∷ 1 ∷ 16 ∷ 33 ∷ 0 ∷ [])) (3 ∷ 8 ∷ [])
    ∷ edits_file (bytes_of (1 ∷ 2 ∷ 1 ∷ 7 ∷ 1 ∷ 0 ∷ 1 ∷ 1 ∷ 16 ∷ 32 ∷ 0 ∷ [])) (3 ∷ 10 ∷ [])
    ∷ early_edits_file (bytes_of (1 ∷ 2 ∷ 1 ∷ 7 ∷ 1 ∷ 1 ∷ 1 ∷ 16 ∷ 32 ∷ 0 ∷ [])) (3 ∷ 9 ∷ [])
    ∷ edits_file (bytes_of (1 ∷ 2 ∷ 1 ∷ 7 ∷ 1 ∷ 0 ∷ 1 ∷ 1 ∷ 16 ∷ 32 ∷ 241 ∷ [])) (3 ∷ 10 ∷ [])
    ∷ early_edits_file (bytes_of (1 ∷ 2 ∷ 1 ∷ 7 ∷ 1 ∷ 1 ∷ 1 ∷ 16 ∷ 32 ∷ 241 ∷ [])) (3 ∷ 9 ∷ [])
    ∷ edits_file (bytes_of (1 ∷ 3 ∷ 1 ∷ 7 ∷ 1 ∷ 0 ∷ 1 ∷ 1 ∷ 0 ∷ 32 ∷ 1 ∷ [])) (3 ∷ 8 ∷ [])
    ∷ early_edits_file (bytes_of (1 ∷ 3 ∷ 1 ∷ 7 ∷ 1 ∷ 1 ∷ 1 ∷ 0 ∷ 32 ∷ 1 ∷ [])) (3 ∷ 7 ∷ [])
    ∷ edits_file (bytes_of (1 ∷ 4 ∷ 1 ∷ 7 ∷ 0 ∷ [])) (3 ∷ 4 ∷ [])
    ∷ edits_file (bytes_of (1 ∷ 7 ∷ 1 ∷ 7 ∷ 2880 ∷ [])) (3 ∷ 4 ∷ [])
    ∷ edits_file (bytes_of (1 ∷ 11 ∷ 0 ∷ [])) (3 ∷ 2 ∷ [])
    -- relations: kind, interval, count, trains; a dependency has two in any order
    ∷ edits_file (bytes_of (1 ∷ 9 ∷ 1 ∷ 0 ∷ 5 ∷ 2 ∷ 7 ∷ 8 ∷ [])) (3 ∷ 3 ∷ [])
    ∷ edits_file (bytes_of (1 ∷ 9 ∷ 1 ∷ 4 ∷ 5 ∷ 2 ∷ 7 ∷ 8 ∷ [])) (3 ∷ 3 ∷ [])
    ∷ edits_file (bytes_of (1 ∷ 9 ∷ 1 ∷ 1 ∷ 241 ∷ 2 ∷ 7 ∷ 8 ∷ [])) (3 ∷ 4 ∷ [])
    ∷ edits_file (bytes_of (1 ∷ 9 ∷ 1 ∷ 1 ∷ 5 ∷ 1 ∷ 7 ∷ [])) (3 ∷ 5 ∷ [])
    ∷ edits_file (bytes_of (1 ∷ 9 ∷ 1 ∷ 1 ∷ 5 ∷ 5 ∷ 7 ∷ 8 ∷ 9 ∷ 10 ∷ 11 ∷ [])) (3 ∷ 5 ∷ [])
    ∷ edits_file (bytes_of (1 ∷ 9 ∷ 1 ∷ 3 ∷ 5 ∷ 3 ∷ 7 ∷ 8 ∷ 9 ∷ [])) (3 ∷ 5 ∷ [])
    ∷ edits_file (bytes_of (1 ∷ 9 ∷ 1 ∷ 1 ∷ 5 ∷ 4 ∷ 7 ∷ 8 ∷ 9 ∷ 9 ∷ [])) (3 ∷ 9 ∷ [])
    ∷ edits_file (bytes_of (1 ∷ 9 ∷ 1 ∷ 2 ∷ 5 ∷ 2 ∷ 8 ∷ 7 ∷ [])) (3 ∷ 7 ∷ [])
    ∷ edits_file (bytes_of (1 ∷ 10 ∷ 1 ∷ 2 ∷ 5 ∷ 2 ∷ 7 ∷ 7 ∷ [])) (3 ∷ 7 ∷ [])
    ∷ edits_file (bytes_of (1 ∷ 9 ∷ 1 ∷ 3 ∷ 5 ∷ 2 ∷ 7 ∷ 0 ∷ [])) (3 ∷ 7 ∷ [])
    ∷ edits_file (bytes_of (1 ∷ 9 ∷ 1 ∷ 1 ∷ 5 ∷ 2 ∷ 0 ∷ 7 ∷ [])) (3 ∷ 6 ∷ [])
    -- the input of `shift`: that of the listing; the first faulty number of the whole file comes before 4
    ∷ shift_file (bytes_of (net_numbers ++ listed_numbers)) (0 ∷ size (net_numbers ++ listed_numbers) ∷ (net_numbers ++ ((size net_numbers + 1) ∷ listed_numbers)))
    ∷ shift_file (bytes_of (loop_numbers ++ (0 ∷ []))) (4 ∷ first_line ∷ [])
    ∷ shift_file (bytes_of (loop_numbers ++ (1 ∷ 12 ∷ []))) (3 ∷ (size loop_numbers + 1) ∷ [])
    ∷ shift_file (bytes_of (loop_numbers ++ (0 ∷ 0 ∷ []))) (1 ∷ (size loop_numbers + 1) ∷ [])
    ∷ shift_file (bytes_of (loop_numbers)) (1 ∷ size loop_numbers ∷ [])
    ∷ shift_file (bytes_of (net_numbers ++ (1 ∷ 1 ∷ 7 ∷ []))) (1 ∷ (size net_numbers + 3) ∷ [])
    ∷ shift_file [] (1 ∷ 0 ∷ [])
    -- timetables: visits with their links and statuses, and relations; none
    ∷ timetable_file net (bytes_of (3 ∷ 1 ∷ 7 ∷ 1 ∷ 0 ∷ 100 ∷ 1 ∷ 102 ∷ 0 ∷ 0 ∷ 2 ∷ 1 ∷ 12 ∷ 1 ∷ 8 ∷ 2 ∷ 0 ∷ 100 ∷ 0 ∷ 102 ∷ 0 ∷ 0 ∷ 0 ∷ 2 ∷ 7 ∷ 1 ∷ 0 ∷ 115 ∷ 0 ∷ 115 ∷ 0 ∷ 1 ∷ 1 ∷ 0 ∷ 3 ∷ 1 ∷ 1 ∷ 5 ∷ 2 ∷ 7 ∷ 9 ∷ 1 ∷ 1 ∷ 5 ∷ 3 ∷ 7 ∷ 8 ∷ 9 ∷ 2 ∷ 3 ∷ 0 ∷ 2 ∷ 7 ∷ 7 ∷ [])) (0 ∷ 54 ∷ 3 ∷ 1 ∷ 7 ∷ 1 ∷ 0 ∷ 100 ∷ 1 ∷ 102 ∷ 0 ∷ 0 ∷ 2 ∷ 1 ∷ 12 ∷ 1 ∷ 8 ∷ 2 ∷ 0 ∷ 100 ∷ 0 ∷ 102 ∷ 0 ∷ 0 ∷ 0 ∷ 2 ∷ 7 ∷ 1 ∷ 0 ∷ 115 ∷ 0 ∷ 115 ∷ 0 ∷ 1 ∷ 1 ∷ 0 ∷ 3 ∷ 1 ∷ 1 ∷ 5 ∷ 2 ∷ 7 ∷ 9 ∷ 1 ∷ 1 ∷ 5 ∷ 3 ∷ 7 ∷ 8 ∷ 9 ∷ 2 ∷ 3 ∷ 0 ∷ 2 ∷ 7 ∷ 7 ∷ [])
    ∷ early_timetable_file net (bytes_of (3 ∷ 1 ∷ 7 ∷ 1 ∷ 100 ∷ 1 ∷ 102 ∷ 0 ∷ 0 ∷ 2 ∷ 1 ∷ 12 ∷ 1 ∷ 8 ∷ 2 ∷ 100 ∷ 0 ∷ 102 ∷ 0 ∷ 0 ∷ 0 ∷ 2 ∷ 7 ∷ 1 ∷ 115 ∷ 0 ∷ 115 ∷ 0 ∷ 1 ∷ 1 ∷ 0 ∷ 3 ∷ 1 ∷ 1 ∷ 5 ∷ 2 ∷ 7 ∷ 9 ∷ 1 ∷ 1 ∷ 5 ∷ 3 ∷ 7 ∷ 8 ∷ 9 ∷ 2 ∷ 3 ∷ 0 ∷ 2 ∷ 7 ∷ 7 ∷ [])) (0 ∷ 51 ∷ 3 ∷ 1 ∷ 7 ∷ 1 ∷ 0 ∷ 100 ∷ 1 ∷ 102 ∷ 0 ∷ 0 ∷ 2 ∷ 1 ∷ 12 ∷ 1 ∷ 8 ∷ 2 ∷ 0 ∷ 100 ∷ 0 ∷ 102 ∷ 0 ∷ 0 ∷ 0 ∷ 2 ∷ 7 ∷ 1 ∷ 0 ∷ 115 ∷ 0 ∷ 115 ∷ 0 ∷ 1 ∷ 1 ∷ 0 ∷ 3 ∷ 1 ∷ 1 ∷ 5 ∷ 2 ∷ 7 ∷ 9 ∷ 1 ∷ 1 ∷ 5 ∷ 3 ∷ 7 ∷ 8 ∷ 9 ∷ 2 ∷ 3 ∷ 0 ∷ 2 ∷ 7 ∷ 7 ∷ [])
    ∷ timetable_file net (bytes_of (0 ∷ 0 ∷ [])) (0 ∷ 2 ∷ 0 ∷ 0 ∷ [])
    ∷ timetable_file net (bytes_of (0 ∷ [])) (1 ∷ 1 ∷ [])
    ∷ timetable_file net (bytes_of (0 ∷ 0 ∷ 0 ∷ [])) (1 ∷ 2 ∷ [])
    ∷ timetable_file net (bytes_of (385 ∷ [])) (3 ∷ 0 ∷ [])
    ∷ timetable_file net (bytes_of (0 ∷ 97 ∷ [])) (3 ∷ 1 ∷ [])
    -- visits out of order: s falls; t falls, t is equal where s is; a falling number comes before a fault behind it
    ∷ timetable_file net (bytes_of (2 ∷ 2 ∷ 7 ∷ 1 ∷ 0 ∷ 115 ∷ 0 ∷ 115 ∷ 0 ∷ 1 ∷ 1 ∷ 0 ∷ 1 ∷ 7 ∷ 1 ∷ 0 ∷ 100 ∷ 1 ∷ 102 ∷ 0 ∷ 0 ∷ 2 ∷ 1 ∷ 12 ∷ 0 ∷ [])) (3 ∷ 12 ∷ [])
    ∷ early_timetable_file net (bytes_of (2 ∷ 2 ∷ 7 ∷ 1 ∷ 115 ∷ 0 ∷ 115 ∷ 0 ∷ 1 ∷ 1 ∷ 0 ∷ 1 ∷ 7 ∷ 1 ∷ 100 ∷ 1 ∷ 102 ∷ 0 ∷ 0 ∷ 2 ∷ 1 ∷ 12 ∷ 0 ∷ [])) (3 ∷ 11 ∷ [])
    ∷ timetable_file net (bytes_of (2 ∷ 1 ∷ 8 ∷ 2 ∷ 0 ∷ 100 ∷ 0 ∷ 102 ∷ 0 ∷ 0 ∷ 0 ∷ 1 ∷ 7 ∷ 1 ∷ 0 ∷ 100 ∷ 1 ∷ 102 ∷ 0 ∷ 0 ∷ 2 ∷ 1 ∷ 12 ∷ 0 ∷ [])) (3 ∷ 12 ∷ [])
    ∷ early_timetable_file net (bytes_of (2 ∷ 1 ∷ 8 ∷ 2 ∷ 100 ∷ 0 ∷ 102 ∷ 0 ∷ 0 ∷ 0 ∷ 1 ∷ 7 ∷ 1 ∷ 100 ∷ 1 ∷ 102 ∷ 0 ∷ 0 ∷ 2 ∷ 1 ∷ 12 ∷ 0 ∷ [])) (3 ∷ 11 ∷ [])
    ∷ timetable_file net (bytes_of (2 ∷ 1 ∷ 8 ∷ 2 ∷ 0 ∷ 100 ∷ 0 ∷ 102 ∷ 0 ∷ 0 ∷ 0 ∷ 1 ∷ 8 ∷ 2 ∷ 0 ∷ 100 ∷ 0 ∷ 102 ∷ 0 ∷ 0 ∷ 0 ∷ 0 ∷ [])) (3 ∷ 12 ∷ [])
    ∷ early_timetable_file net (bytes_of (2 ∷ 1 ∷ 8 ∷ 2 ∷ 100 ∷ 0 ∷ 102 ∷ 0 ∷ 0 ∷ 0 ∷ 1 ∷ 8 ∷ 2 ∷ 100 ∷ 0 ∷ 102 ∷ 0 ∷ 0 ∷ 0 ∷ 0 ∷ [])) (3 ∷ 11 ∷ [])
    ∷ timetable_file net (bytes_of (2 ∷ 1 ∷ 8 ∷ 2 ∷ 0 ∷ 100 ∷ 0 ∷ 102 ∷ 0 ∷ 0 ∷ 0 ∷ 2 ∷ 1 ∷ 1 ∷ 0 ∷ 115 ∷ 0 ∷ 115 ∷ 0 ∷ 1 ∷ 1 ∷ 0 ∷ 0 ∷ [])) (0 ∷ 23 ∷ 2 ∷ 1 ∷ 8 ∷ 2 ∷ 0 ∷ 100 ∷ 0 ∷ 102 ∷ 0 ∷ 0 ∷ 0 ∷ 2 ∷ 1 ∷ 1 ∷ 0 ∷ 115 ∷ 0 ∷ 115 ∷ 0 ∷ 1 ∷ 1 ∷ 0 ∷ 0 ∷ [])
    ∷ early_timetable_file net (bytes_of (2 ∷ 1 ∷ 8 ∷ 2 ∷ 100 ∷ 0 ∷ 102 ∷ 0 ∷ 0 ∷ 0 ∷ 2 ∷ 1 ∷ 1 ∷ 115 ∷ 0 ∷ 115 ∷ 0 ∷ 1 ∷ 1 ∷ 0 ∷ 0 ∷ [])) (0 ∷ 21 ∷ 2 ∷ 1 ∷ 8 ∷ 2 ∷ 0 ∷ 100 ∷ 0 ∷ 102 ∷ 0 ∷ 0 ∷ 0 ∷ 2 ∷ 1 ∷ 1 ∷ 0 ∷ 115 ∷ 0 ∷ 115 ∷ 0 ∷ 1 ∷ 1 ∷ 0 ∷ 0 ∷ [])
    ∷ timetable_file net (bytes_of (2 ∷ 2 ∷ 7 ∷ 1 ∷ 0 ∷ 115 ∷ 0 ∷ 115 ∷ 0 ∷ 1 ∷ 1 ∷ 0 ∷ 1 ∷ 0 ∷ 1 ∷ 0 ∷ 100 ∷ 1 ∷ 102 ∷ 0 ∷ 0 ∷ 2 ∷ 1 ∷ 12 ∷ 0 ∷ [])) (3 ∷ 12 ∷ [])
    ∷ early_timetable_file net (bytes_of (2 ∷ 2 ∷ 7 ∷ 1 ∷ 115 ∷ 0 ∷ 115 ∷ 0 ∷ 1 ∷ 1 ∷ 0 ∷ 1 ∷ 0 ∷ 1 ∷ 100 ∷ 1 ∷ 102 ∷ 0 ∷ 0 ∷ 2 ∷ 1 ∷ 12 ∷ 0 ∷ [])) (3 ∷ 11 ∷ [])
    -- ranges of visits and links
    ∷ timetable_file net (bytes_of (1 ∷ 17 ∷ 7 ∷ 1 ∷ 0 ∷ 100 ∷ 1 ∷ 102 ∷ 0 ∷ 0 ∷ 2 ∷ 1 ∷ 12 ∷ 0 ∷ [])) (3 ∷ 1 ∷ [])
    ∷ early_timetable_file net (bytes_of (1 ∷ 17 ∷ 7 ∷ 1 ∷ 100 ∷ 1 ∷ 102 ∷ 0 ∷ 0 ∷ 2 ∷ 1 ∷ 12 ∷ 0 ∷ [])) (3 ∷ 1 ∷ [])
    ∷ timetable_file net (bytes_of (1 ∷ 1 ∷ 7 ∷ 1 ∷ 0 ∷ 100 ∷ 2 ∷ 102 ∷ 0 ∷ 0 ∷ 0 ∷ 0 ∷ [])) (3 ∷ 6 ∷ [])
    ∷ early_timetable_file net (bytes_of (1 ∷ 1 ∷ 7 ∷ 1 ∷ 100 ∷ 2 ∷ 102 ∷ 0 ∷ 0 ∷ 0 ∷ 0 ∷ [])) (3 ∷ 5 ∷ [])
    ∷ timetable_file net (bytes_of (1 ∷ 1 ∷ 7 ∷ 1 ∷ 0 ∷ 100 ∷ 1 ∷ 102 ∷ 2 ∷ 0 ∷ 0 ∷ 0 ∷ [])) (3 ∷ 8 ∷ [])
    ∷ early_timetable_file net (bytes_of (1 ∷ 1 ∷ 7 ∷ 1 ∷ 100 ∷ 1 ∷ 102 ∷ 2 ∷ 0 ∷ 0 ∷ 0 ∷ [])) (3 ∷ 7 ∷ [])
    ∷ timetable_file net (bytes_of (1 ∷ 1 ∷ 7 ∷ 1 ∷ 0 ∷ 100 ∷ 0 ∷ 102 ∷ 0 ∷ 17 ∷ 1 ∷ 0 ∷ 0 ∷ [])) (3 ∷ 9 ∷ [])
    ∷ early_timetable_file net (bytes_of (1 ∷ 1 ∷ 7 ∷ 1 ∷ 100 ∷ 0 ∷ 102 ∷ 0 ∷ 17 ∷ 1 ∷ 0 ∷ 0 ∷ [])) (3 ∷ 8 ∷ [])
    ∷ timetable_file net (bytes_of (1 ∷ 1 ∷ 7 ∷ 1 ∷ 0 ∷ 100 ∷ 0 ∷ 102 ∷ 0 ∷ 2 ∷ 33 ∷ 0 ∷ 0 ∷ [])) (3 ∷ 10 ∷ [])
    ∷ early_timetable_file net (bytes_of (1 ∷ 1 ∷ 7 ∷ 1 ∷ 100 ∷ 0 ∷ 102 ∷ 0 ∷ 2 ∷ 33 ∷ 0 ∷ 0 ∷ [])) (3 ∷ 9 ∷ [])
    ∷ timetable_file net (bytes_of (1 ∷ 1 ∷ 7 ∷ 1 ∷ 0 ∷ 100 ∷ 0 ∷ 102 ∷ 0 ∷ 0 ∷ 2 ∷ 1 ∷ 0 ∷ 0 ∷ [])) (3 ∷ 12 ∷ [])
    ∷ early_timetable_file net (bytes_of (1 ∷ 1 ∷ 7 ∷ 1 ∷ 100 ∷ 0 ∷ 102 ∷ 0 ∷ 0 ∷ 2 ∷ 1 ∷ 0 ∷ 0 ∷ [])) (3 ∷ 11 ∷ [])
    -- relations out of order: by station, kind, interval, count, each train; equal ones at the last train
    ∷ timetable_file net (bytes_of (0 ∷ 2 ∷ 2 ∷ 3 ∷ 0 ∷ 2 ∷ 7 ∷ 7 ∷ 1 ∷ 1 ∷ 5 ∷ 2 ∷ 7 ∷ 9 ∷ [])) (3 ∷ 8 ∷ [])
    ∷ timetable_file net (bytes_of (0 ∷ 2 ∷ 1 ∷ 2 ∷ 0 ∷ 2 ∷ 7 ∷ 8 ∷ 1 ∷ 1 ∷ 5 ∷ 2 ∷ 7 ∷ 9 ∷ [])) (3 ∷ 9 ∷ [])
    ∷ timetable_file net (bytes_of (0 ∷ 2 ∷ 1 ∷ 1 ∷ 6 ∷ 2 ∷ 7 ∷ 8 ∷ 1 ∷ 1 ∷ 5 ∷ 2 ∷ 7 ∷ 9 ∷ [])) (3 ∷ 10 ∷ [])
    ∷ timetable_file net (bytes_of (0 ∷ 2 ∷ 1 ∷ 1 ∷ 5 ∷ 3 ∷ 7 ∷ 8 ∷ 9 ∷ 1 ∷ 1 ∷ 5 ∷ 2 ∷ 7 ∷ 9 ∷ [])) (3 ∷ 12 ∷ [])
    ∷ timetable_file net (bytes_of (0 ∷ 2 ∷ 1 ∷ 1 ∷ 5 ∷ 2 ∷ 8 ∷ 9 ∷ 1 ∷ 1 ∷ 5 ∷ 2 ∷ 7 ∷ 9 ∷ [])) (3 ∷ 12 ∷ [])
    ∷ timetable_file net (bytes_of (0 ∷ 2 ∷ 1 ∷ 1 ∷ 5 ∷ 2 ∷ 7 ∷ 10 ∷ 1 ∷ 1 ∷ 5 ∷ 2 ∷ 7 ∷ 9 ∷ [])) (3 ∷ 13 ∷ [])
    ∷ timetable_file net (bytes_of (0 ∷ 2 ∷ 1 ∷ 1 ∷ 5 ∷ 2 ∷ 7 ∷ 9 ∷ 1 ∷ 1 ∷ 5 ∷ 2 ∷ 7 ∷ 9 ∷ [])) (3 ∷ 13 ∷ [])
    ∷ timetable_file net (bytes_of (0 ∷ 2 ∷ 1 ∷ 1 ∷ 5 ∷ 2 ∷ 7 ∷ 9 ∷ 1 ∷ 1 ∷ 5 ∷ 2 ∷ 8 ∷ 8 ∷ [])) (3 ∷ 13 ∷ [])
    ∷ timetable_file net (bytes_of (0 ∷ 2 ∷ 1 ∷ 3 ∷ 5 ∷ 2 ∷ 7 ∷ 9 ∷ 1 ∷ 3 ∷ 5 ∷ 2 ∷ 8 ∷ 2 ∷ [])) (0 ∷ 14 ∷ 0 ∷ 2 ∷ 1 ∷ 3 ∷ 5 ∷ 2 ∷ 7 ∷ 9 ∷ 1 ∷ 3 ∷ 5 ∷ 2 ∷ 8 ∷ 2 ∷ [])
    -- 7 and 12 at the entry's first byte, entry by entry; not before a faulty number, not without one entry too many
    ∷ timetable_file net (bytes_of (1 ∷ 3 ∷ 7 ∷ 1 ∷ 0 ∷ 100 ∷ 0 ∷ 102 ∷ 0 ∷ 0 ∷ 0 ∷ 0 ∷ [])) (7 ∷ 1 ∷ [])
    ∷ early_timetable_file net (bytes_of (1 ∷ 3 ∷ 7 ∷ 1 ∷ 100 ∷ 0 ∷ 102 ∷ 0 ∷ 0 ∷ 0 ∷ 0 ∷ [])) (7 ∷ 1 ∷ [])
    ∷ timetable_file net (bytes_of (1 ∷ 1 ∷ 7 ∷ 3 ∷ 0 ∷ 100 ∷ 0 ∷ 102 ∷ 0 ∷ 0 ∷ 0 ∷ 0 ∷ [])) (7 ∷ 1 ∷ [])
    ∷ early_timetable_file net (bytes_of (1 ∷ 1 ∷ 7 ∷ 3 ∷ 100 ∷ 0 ∷ 102 ∷ 0 ∷ 0 ∷ 0 ∷ 0 ∷ [])) (7 ∷ 1 ∷ [])
    ∷ timetable_file net (bytes_of (2 ∷ 1 ∷ 8 ∷ 2 ∷ 0 ∷ 100 ∷ 0 ∷ 102 ∷ 0 ∷ 0 ∷ 0 ∷ 2 ∷ 7 ∷ 2 ∷ 0 ∷ 100 ∷ 0 ∷ 102 ∷ 0 ∷ 0 ∷ 0 ∷ 0 ∷ [])) (7 ∷ 11 ∷ [])
    ∷ early_timetable_file net (bytes_of (2 ∷ 1 ∷ 8 ∷ 2 ∷ 100 ∷ 0 ∷ 102 ∷ 0 ∷ 0 ∷ 0 ∷ 2 ∷ 7 ∷ 2 ∷ 100 ∷ 0 ∷ 102 ∷ 0 ∷ 0 ∷ 0 ∷ 0 ∷ [])) (7 ∷ 10 ∷ [])
    ∷ timetable_file net (bytes_of (1 ∷ 1 ∷ 7 ∷ 1 ∷ 0 ∷ 100 ∷ 0 ∷ 102 ∷ 0 ∷ 2 ∷ 2 ∷ 0 ∷ 0 ∷ [])) (7 ∷ 1 ∷ [])
    ∷ early_timetable_file net (bytes_of (1 ∷ 1 ∷ 7 ∷ 1 ∷ 100 ∷ 0 ∷ 102 ∷ 0 ∷ 2 ∷ 2 ∷ 0 ∷ 0 ∷ [])) (7 ∷ 1 ∷ [])
    ∷ timetable_file net (bytes_of (1 ∷ 1 ∷ 7 ∷ 1 ∷ 0 ∷ 100 ∷ 0 ∷ 102 ∷ 0 ∷ 3 ∷ 1 ∷ 0 ∷ 0 ∷ [])) (7 ∷ 1 ∷ [])
    ∷ early_timetable_file net (bytes_of (1 ∷ 1 ∷ 7 ∷ 1 ∷ 100 ∷ 0 ∷ 102 ∷ 0 ∷ 3 ∷ 1 ∷ 0 ∷ 0 ∷ [])) (7 ∷ 1 ∷ [])
    ∷ timetable_file net (bytes_of (1 ∷ 1 ∷ 7 ∷ 1 ∷ 0 ∷ 100 ∷ 0 ∷ 102 ∷ 0 ∷ 0 ∷ 3 ∷ 1 ∷ 12 ∷ 0 ∷ [])) (7 ∷ 1 ∷ [])
    ∷ early_timetable_file net (bytes_of (1 ∷ 1 ∷ 7 ∷ 1 ∷ 100 ∷ 0 ∷ 102 ∷ 0 ∷ 0 ∷ 3 ∷ 1 ∷ 12 ∷ 0 ∷ [])) (7 ∷ 1 ∷ [])
    ∷ timetable_file net (bytes_of (1 ∷ 1 ∷ 7 ∷ 1 ∷ 0 ∷ 100 ∷ 0 ∷ 102 ∷ 0 ∷ 0 ∷ 1 ∷ 1 ∷ 12 ∷ 0 ∷ [])) (7 ∷ 1 ∷ [])
    ∷ early_timetable_file net (bytes_of (1 ∷ 1 ∷ 7 ∷ 1 ∷ 100 ∷ 0 ∷ 102 ∷ 0 ∷ 0 ∷ 1 ∷ 1 ∷ 12 ∷ 0 ∷ [])) (7 ∷ 1 ∷ [])
    ∷ timetable_file branch (bytes_of (1 ∷ 2 ∷ 7 ∷ 1 ∷ 0 ∷ 100 ∷ 0 ∷ 102 ∷ 0 ∷ 1 ∷ 1 ∷ 0 ∷ 0 ∷ [])) (0 ∷ 13 ∷ 1 ∷ 2 ∷ 7 ∷ 1 ∷ 0 ∷ 100 ∷ 0 ∷ 102 ∷ 0 ∷ 1 ∷ 1 ∷ 0 ∷ 0 ∷ [])
    ∷ early_timetable_file branch (bytes_of (1 ∷ 2 ∷ 7 ∷ 1 ∷ 100 ∷ 0 ∷ 102 ∷ 0 ∷ 1 ∷ 1 ∷ 0 ∷ 0 ∷ [])) (0 ∷ 12 ∷ 1 ∷ 2 ∷ 7 ∷ 1 ∷ 0 ∷ 100 ∷ 0 ∷ 102 ∷ 0 ∷ 1 ∷ 1 ∷ 0 ∷ 0 ∷ [])
    ∷ timetable_file branch (bytes_of (1 ∷ 1 ∷ 7 ∷ 1 ∷ 0 ∷ 100 ∷ 0 ∷ 102 ∷ 0 ∷ 2 ∷ 1 ∷ 0 ∷ 0 ∷ [])) (7 ∷ 1 ∷ [])
    ∷ early_timetable_file branch (bytes_of (1 ∷ 1 ∷ 7 ∷ 1 ∷ 100 ∷ 0 ∷ 102 ∷ 0 ∷ 2 ∷ 1 ∷ 0 ∷ 0 ∷ [])) (7 ∷ 1 ∷ [])
    ∷ timetable_file branch (bytes_of (1 ∷ 1 ∷ 7 ∷ 1 ∷ 0 ∷ 100 ∷ 0 ∷ 102 ∷ 0 ∷ 0 ∷ 2 ∷ 1 ∷ 12 ∷ 0 ∷ [])) (0 ∷ 14 ∷ 1 ∷ 1 ∷ 7 ∷ 1 ∷ 0 ∷ 100 ∷ 0 ∷ 102 ∷ 0 ∷ 0 ∷ 2 ∷ 1 ∷ 12 ∷ 0 ∷ [])
    ∷ early_timetable_file branch (bytes_of (1 ∷ 1 ∷ 7 ∷ 1 ∷ 100 ∷ 0 ∷ 102 ∷ 0 ∷ 0 ∷ 2 ∷ 1 ∷ 12 ∷ 0 ∷ [])) (0 ∷ 13 ∷ 1 ∷ 1 ∷ 7 ∷ 1 ∷ 0 ∷ 100 ∷ 0 ∷ 102 ∷ 0 ∷ 0 ∷ 2 ∷ 1 ∷ 12 ∷ 0 ∷ [])
    ∷ timetable_file branch (bytes_of (1 ∷ 2 ∷ 7 ∷ 1 ∷ 0 ∷ 100 ∷ 0 ∷ 102 ∷ 0 ∷ 0 ∷ 1 ∷ 1 ∷ 12 ∷ 0 ∷ [])) (7 ∷ 1 ∷ [])
    ∷ early_timetable_file branch (bytes_of (1 ∷ 2 ∷ 7 ∷ 1 ∷ 100 ∷ 0 ∷ 102 ∷ 0 ∷ 0 ∷ 1 ∷ 1 ∷ 12 ∷ 0 ∷ [])) (7 ∷ 1 ∷ [])
    ∷ timetable_file net (bytes_of (0 ∷ 1 ∷ 3 ∷ 1 ∷ 5 ∷ 2 ∷ 7 ∷ 8 ∷ [])) (7 ∷ 2 ∷ [])
    ∷ timetable_file net (bytes_of (1 ∷ 3 ∷ 7 ∷ 1 ∷ 0 ∷ 100 ∷ 0 ∷ 102 ∷ 0 ∷ 0 ∷ 0 ∷ 1 ∷ 1 ∷ 1 ∷ 5 ∷ 2 ∷ 8 ∷ 7 ∷ [])) (3 ∷ 17 ∷ [])
    ∷ early_timetable_file net (bytes_of (1 ∷ 3 ∷ 7 ∷ 1 ∷ 100 ∷ 0 ∷ 102 ∷ 0 ∷ 0 ∷ 0 ∷ 1 ∷ 1 ∷ 1 ∷ 5 ∷ 2 ∷ 8 ∷ 7 ∷ [])) (3 ∷ 16 ∷ [])
    ∷ timetable_file net (bytes_of (24 ∷ (crowd_visits 1 24 ++ (0 ∷ [])))) (0 ∷ 242 ∷ 24 ∷ (crowd_visits 1 24 ++ (0 ∷ [])))
    ∷ timetable_file net (bytes_of (25 ∷ (crowd_visits 1 25 ++ (0 ∷ [])))) (12 ∷ 241 ∷ [])
    ∷ timetable_file net (bytes_of (26 ∷ (crowd_visits 1 25 ++ (3 ∷ 1 ∷ 1 ∷ 0 ∷ 1 ∷ 0 ∷ 1 ∷ 0 ∷ 0 ∷ 0 ∷ 0 ∷ [])))) (12 ∷ 241 ∷ [])
    ∷ timetable_file net (bytes_of (0 ∷ 6 ∷ connected 1 6)) (0 ∷ 38 ∷ 0 ∷ 6 ∷ connected 1 6)
    ∷ timetable_file net (bytes_of (0 ∷ 7 ∷ connected 1 7)) (12 ∷ 38 ∷ [])
    -- the network's own refusals: 3 before the file's, 4 behind them, both at 0
    ∷ timetable_file (network [] 3 []) (bytes_of (0 ∷ [])) (3 ∷ 0 ∷ [])
    ∷ timetable_file (network (station 1 1 2 ∷ station 2 2 1 ∷ []) 3 (line 1 1 1 3 10 1 ∷ [])) (bytes_of (0 ∷ [])) (1 ∷ 1 ∷ [])
    ∷ timetable_file (network (station 1 1 2 ∷ station 2 2 1 ∷ []) 3 (line 1 1 1 3 10 1 ∷ [])) (bytes_of (1 ∷ (crowd_visits 1 1 ++ (0 ∷ [])))) (4 ∷ 0 ∷ [])
    ∷ []

-- W1: closures, in files and in memory, and rule 11
pub closures : List Case
closures =
    -- the run occupies the line from 100 up to 112: a closure that touches it, and one minute more, at either end
    found (closed (closure 1 90 100 ∷ [])) (leaving 7 100 12) (finding (st 1) 11 7 1) false
    ∷ found (closed (closure 1 90 101 ∷ [])) (leaving 7 100 12) (finding (st 1) 11 7 1) true
    ∷ found (closed (closure 1 112 120 ∷ [])) (leaving 7 100 12) (finding (st 1) 11 7 1) false
    ∷ found (closed (closure 1 111 120 ∷ [])) (leaving 7 100 12) (finding (st 1) 11 7 1) true
    -- inside, around, and of another line
    ∷ found (closed (closure 1 103 105 ∷ [])) (leaving 7 100 12) (finding (st 1) 11 7 1) true
    ∷ found (closed (closure 1 0 2880 ∷ [])) (leaving 7 100 12) (finding (st 1) 11 7 1) true
    ∷ found (closed_lines (line 1 1 2 3 10 1 ∷ line 2 1 2 3 10 1 ∷ []) (closure 2 0 2880 ∷ [])) (leaving 7 100 12) (finding (st 1) 11 7 1) false
    -- two closures give one finding, in the area's list and in no pair's
    ∷ area_has (closed (closure 1 100 103 ∷ closure 1 105 107 ∷ [])) (run_of (leaving 7 100 12)) 1 (1 ∷ 11 ∷ 7 ∷ 1 ∷ [])
    ∷ pair_has (closed (closure 1 100 103 ∷ closure 1 105 107 ∷ [])) (run_of (leaving 7 100 12)) 1 2 []
    -- behind the other rules of its station, by train
    ∷ area_has (closed (closure 1 0 2880 ∷ [])) (run_of (leaving 8 101 12 ++ leaving 7 100 12)) 1
    (1 ∷ 3 ∷ 7 ∷ 8 ∷ 1 ∷ 6 ∷ 8 ∷ 0 ∷ 1 ∷ 11 ∷ 7 ∷ 1 ∷ 1 ∷ 11 ∷ 8 ∷ 1 ∷ [])
    -- the departure occurred; it is pending though the arrival occurred; the link is not answered; no link
    ∷ stands (closed (closure 1 90 101 ∷ [])) (standing (tabled (visiting 7 100 true 100 true InLink.Nothing (to 2 1 12) ∷ []) []) bare) (finding (st 1) 11 7 1) false
    ∷ stands (closed (closure 1 90 101 ∷ [])) (standing (tabled (visiting 7 100 true 100 false InLink.Nothing (to 2 1 12) ∷ []) []) bare) (finding (st 1) 11 7 1) true
    ∷ stands (closed (closure 1 90 101 ∷ [])) (standing (tabled (visiting 7 100 false 100 false (by 2 1) OutLink.Nothing ∷ []) []) bare) (finding (st 1) 11 7 0) false
    -- the line used the other way; a run past the last minute
    ∷ found (closed (closure 1 90 101 ∷ [])) (inbound 7 112) (finding (st 2) 11 7 1) true
    ∷ stands (closed (closure 1 0 5 ∷ [])) (standing (tabled (visiting 7 2879 false 2879 false InLink.Nothing (to 2 1 12) ∷ []) []) bare) (finding (st 1) 11 7 1) false
    ∷ stands (closed (closure 1 2879 2880 ∷ [])) (standing (tabled (visiting 7 2879 false 2879 false InLink.Nothing (to 2 1 12) ∷ []) []) bare) (finding (st 1) 11 7 1) true
    -- networks in memory: 3 before 14 before 4
    ∷ network_is (closed (closure 1 0 1 ∷ closure 1 1 2880 ∷ [])) 0
    ∷ network_is (closed (windows 32)) 0
    ∷ network_is (closed (windows 33)) 3
    ∷ network_is (closed (closure 33 0 1 ∷ [])) 3
    ∷ network_is (closed (closure 1 2880 2880 ∷ [])) 3
    ∷ network_is (closed (closure 1 0 0 ∷ [])) 3
    ∷ network_is (closed (closure 1 0 2881 ∷ [])) 3
    ∷ network_is (closed (closure 1 5 6 ∷ closure 1 5 7 ∷ [])) 3
    ∷ network_is (closed (closure 1 5 6 ∷ closure 1 4 7 ∷ [])) 3
    ∷ network_is (closed (closure 2 5 6 ∷ closure 1 6 7 ∷ [])) 3
    ∷ network_is (closed (closure 1 5 5 ∷ [])) 14
    ∷ network_is (closed (closure 1 5 4 ∷ closure 2 0 0 ∷ [])) 3
    ∷ network_is (closed (closure 1 0 1 ∷ closure 2 5 5 ∷ [])) 14
    ∷ network_is (closed (closure 2 5 6 ∷ [])) 4
    ∷ network_is (closed_lines (line 1 1 1 3 10 1 ∷ []) (closure 1 5 5 ∷ [])) 14
    -- files: good ones; windows may overlap or touch, and a later line may be closed earlier
    ∷ network_file (bytes_of (closed_by (closure_row 1 0 2880 ∷ closure_row 1 100 110 ∷ closure_row 1 110 120 ∷ [])))
    (0 ∷ size (closed_by (closure_row 1 0 2880 ∷ closure_row 1 100 110 ∷ closure_row 1 110 120 ∷ [])) ∷ closed_by (closure_row 1 0 2880 ∷ closure_row 1 100 110 ∷ closure_row 1 110 120 ∷ []))
    -- 1: no count, a closure too few; 3: the count, each number, the order
    ∷ network_file (bytes_of (up_to_lines two_stations 3 1 ++ line_row 1 1 2 3 10 1)) (1 ∷ (first_closure - 1) ∷ [])
    ∷ network_file (bytes_of (up_to_closures two_stations 3 (line_row 1 1 2 3 10 1 ∷ []) 1)) (1 ∷ first_closure ∷ [])
    ∷ network_file (bytes_of (up_to_closures two_stations 3 (line_row 1 1 2 3 10 1 ∷ []) 33)) (3 ∷ (first_closure - 1) ∷ [])
    ∷ network_file (bytes_of (closed_by (closure_row 33 0 1 ∷ []))) (3 ∷ first_closure ∷ [])
    ∷ network_file (bytes_of (closed_by (closure_row 0 0 1 ∷ []))) (3 ∷ first_closure ∷ [])
    ∷ network_file (bytes_of (closed_by (closure_row 1 2880 2880 ∷ []))) (3 ∷ (first_closure + 1) ∷ [])
    ∷ network_file (bytes_of (closed_by (closure_row 1 0 0 ∷ []))) (3 ∷ (first_closure + 2) ∷ [])
    ∷ network_file (bytes_of (closed_by (closure_row 1 0 2881 ∷ []))) (3 ∷ (first_closure + 2) ∷ [])
    ∷ network_file (bytes_of (closed_by (closure_row 1 100 110 ∷ closure_row 1 100 120 ∷ []))) (3 ∷ (second_closure + 1) ∷ [])
    ∷ network_file (bytes_of (closed_by (closure_row 1 100 110 ∷ closure_row 1 99 120 ∷ []))) (3 ∷ (second_closure + 1) ∷ [])
    ∷ network_file (bytes_of (closed_by (closure_row 2 100 110 ∷ closure_row 1 101 120 ∷ []))) (3 ∷ second_closure ∷ [])
    -- 14 at the closure's first byte, the first such closure; before 4 of a line and of a closure, behind a faulty
    -- number
    ∷ network_file (bytes_of (closed_by (closure_row 1 100 100 ∷ []))) (14 ∷ first_closure ∷ [])
    ∷ network_file (bytes_of (closed_by (closure_row 1 100 110 ∷ closure_row 1 110 99 ∷ closure_row 1 111 1 ∷ []))) (14 ∷ second_closure ∷ [])
    ∷ network_file (bytes_of (closed_row two_stations 3 (line_row 1 1 1 3 10 1 ∷ []) (closure_row 1 100 100 ∷ []))) (14 ∷ first_closure ∷ [])
    ∷ network_file (bytes_of (closed_by (closure_row 2 100 110 ∷ closure_row 2 101 101 ∷ []))) (14 ∷ second_closure ∷ [])
    ∷ network_file (bytes_of (closed_by (closure_row 1 100 100 ∷ closure_row 1 101 0 ∷ []))) (3 ∷ (second_closure + 2) ∷ [])
    ∷ shift_file (bytes_of (closed_by (closure_row 1 100 100 ∷ []) ++ (1 ∷ 12 ∷ []))) (3 ∷ (size (closed_by (closure_row 1 100 100 ∷ [])) + 1) ∷ [])
    ∷ shift_file (bytes_of (closed_by (closure_row 1 100 100 ∷ []) ++ (0 ∷ []))) (14 ∷ first_closure ∷ [])
    ∷ shift_file (bytes_of (closed_by (closure_row 1 100 100 ∷ []) ++ (0 ∷ 0 ∷ []))) (1 ∷ (size (closed_by (closure_row 1 100 100 ∷ [])) + 1) ∷ [])
    -- 4 of an unlisted line at the closure's first byte, behind a line's 4
    ∷ network_file (bytes_of (closed_by (closure_row 1 100 110 ∷ closure_row 2 100 110 ∷ []))) (4 ∷ second_closure ∷ [])
    ∷ network_file (bytes_of (closed_row two_stations 3 (line_row 1 1 1 3 10 1 ∷ []) (closure_row 2 100 110 ∷ []))) (4 ∷ first_line ∷ [])
    -- a timetable file under a network in memory: 14 at place 0, behind the file's faulty numbers
    ∷ timetable_file (closed (closure 1 5 5 ∷ [])) (bytes_of (0 ∷ [])) (1 ∷ 1 ∷ [])
    ∷ timetable_file (closed (closure 1 5 5 ∷ [])) (bytes_of (0 ∷ 0 ∷ [])) (14 ∷ 0 ∷ [])
    ∷ timetable_file (closed (closure 2 5 6 ∷ [])) (bytes_of (0 ∷ 0 ∷ [])) (4 ∷ 0 ∷ [])
    ∷ []

-- document 02, W2
pub standing_trains : List Case
standing_trains =
    -- (c)'s standing twin: "t arrived at 100 and departs at 102; u at 102 is found, u at 103 isn't."
    found net (place 1 7 1 100 102 ∷ place 1 8 1 102 104 ∷ arrives 1 7 100 ∷ []) (finding (st 1) 2 7 8) true
    ∷ found net (place 1 7 1 100 102 ∷ place 1 8 1 103 104 ∷ arrives 1 7 100 ∷ []) (finding (st 1) 2 7 8) false
    -- the larger train stands: found once, the smaller first
    ∷ found net (place 1 8 1 100 102 ∷ place 1 7 1 102 104 ∷ arrives 1 8 100 ∷ []) (finding (st 1) 2 7 8) true
    ∷ found net (place 1 8 1 100 102 ∷ place 1 7 1 103 104 ∷ arrives 1 8 100 ∷ []) (finding (st 1) 2 7 8) false
    ∷ area_has net (run_of (place 1 8 1 100 102 ∷ place 1 7 1 102 104 ∷ arrives 1 8 100 ∷ [])) 1 (1 ∷ 2 ∷ 7 ∷ 8 ∷ [])
    -- the later one has arrived before the earlier one
    ∷ found net (place 1 7 1 100 102 ∷ place 1 8 1 102 104 ∷ arrives 1 8 102 ∷ []) (finding (st 1) 2 7 8) true
    -- both arrived; t departed; another track
    ∷ found net (place 1 7 1 100 102 ∷ place 1 8 1 101 104 ∷ arrives 1 7 100 ∷ arrives 1 8 101 ∷ []) (finding (st 1) 2 7 8) false
    ∷ found net (place 1 7 1 100 102 ∷ place 1 8 1 102 104 ∷ arrives 1 7 100 ∷ departs 1 7 102 ∷ []) (finding (st 1) 2 7 8) false
    ∷ found net (place 1 7 1 100 102 ∷ place 1 8 2 102 104 ∷ arrives 1 7 100 ∷ []) (finding (st 1) 2 7 8) false
    -- u's plan lies wholly before t's arrival: found to the letter, though not by the old rule
    ∷ found net (place 1 7 1 100 102 ∷ place 1 8 1 80 84 ∷ []) (finding (st 1) 2 7 8) false
    ∷ found net (place 1 7 1 100 102 ∷ place 1 8 1 80 84 ∷ arrives 1 7 100 ∷ []) (finding (st 1) 2 7 8) true
    -- t's arrival time plays no part: reported later than it departs
    ∷ found net (place 1 7 1 100 102 ∷ place 1 8 1 102 104 ∷ arrives 1 7 300 ∷ []) (finding (st 1) 2 7 8) true
    -- a departure that occurred before its arrival did: nothing stands
    ∷ found net (place 1 7 1 100 102 ∷ place 1 8 1 103 104 ∷ departs 1 7 102 ∷ []) (finding (st 1) 2 7 8) false
    ∷ []

-- document 02, W3
pub freight : List Case
freight =
    -- the border: a run between the two times, both orders of them
    found (timed 10 15) (leaving 4999 102 12) (finding (st 1) 5 4999 0) false
    ∷ found (timed 10 15) (leaving 5000 102 12) (finding (st 1) 5 5000 0) true
    ∷ found (timed 15 10) (leaving 4999 102 12) (finding (st 1) 5 4999 0) true
    ∷ found (timed 15 10) (leaving 5000 102 12) (finding (st 1) 5 5000 0) false
    -- the least time itself is no fault; the last train is freight
    ∷ found (timed 10 15) (leaving 5000 102 15) (finding (st 1) 5 5000 0) false
    ∷ found (timed 10 15) (leaving 9999 102 14) (finding (st 1) 5 9999 0) true
    ∷ found (timed 10 15) (leaving 4999 102 9) (finding (st 1) 5 4999 0) true
    -- ranges of both, in memory and in a file, where passenger comes first
    ∷ network_is (timed 0 10) 3
    ∷ network_is (timed 10 0) 3
    ∷ network_is (timed 241 10) 3
    ∷ network_is (timed 10 241) 3
    ∷ network_is (timed 240 1) 0
    ∷ network_file (bytes_of (joined_by (timed_row 1 1 2 3 0 10 1 ∷ []))) (3 ∷ (first_line + 4) ∷ [])
    ∷ network_file (bytes_of (joined_by (timed_row 1 1 2 3 10 241 1 ∷ []))) (3 ∷ (first_line + 5) ∷ [])
    ∷ network_file (bytes_of (joined_by (timed_row 1 1 2 3 10 15 1 ∷ []))) (0 ∷ size (joined_by (timed_row 1 1 2 3 10 15 1 ∷ [])) ∷ joined_by (timed_row 1 1 2 3 10 15 1 ∷ []))
    -- a turned file, byte for byte; "a longer one keeps its rest"
    ∷ turning (2 ∷ 1 ∷ 1 ∷ 2 ∷ 2 ∷ 2 ∷ 1 ∷ 3 ∷ 1 ∷ 1 ∷ 1 ∷ 2 ∷ 3 ∷ 10 ∷ 1 ∷ 1 ∷ 1 ∷ 5 ∷ 6 ∷ []) (replicate 21 99) (0 ∷ 20 ∷ [])
    (2 ∷ 1 ∷ 1 ∷ 2 ∷ 2 ∷ 2 ∷ 1 ∷ 3 ∷ 1 ∷ 1 ∷ 1 ∷ 2 ∷ 3 ∷ 10 ∷ 10 ∷ 1 ∷ 1 ∷ 1 ∷ 5 ∷ 6 ∷ 99 ∷ [])
    -- a buffer that is just long enough, one that is too short, none
    ∷ turning (old_file (old_row 1 1 2 3 240 1 ∷ []) []) (replicate 19 99) (0 ∷ 19 ∷ []) (bytes_of (joined_by (line_row 1 1 2 3 240 1 ∷ [])))
    ∷ turning (old_file (old_row 1 1 2 3 240 1 ∷ []) []) (replicate 18 99) (13 ∷ 19 ∷ []) (replicate 18 99)
    ∷ turning (old_file [] []) [] (13 ∷ 10 ∷ []) []
    -- refused, with the place in the old file: 3, 14, 4 of a line and of a closure, 2, 1 at a surplus byte
    ∷ turning (old_file (old_row 1 1 2 3 240 1 ∷ old_row 2 1 2 3 10 10 ∷ []) []) (replicate 99 0) (3 ∷ (old_second + 5) ∷ []) (replicate 99 0)
    ∷ turning (old_file (old_row 1 1 2 3 10 1 ∷ []) (closure_row 1 6 6 ∷ [])) (replicate 99 0) (14 ∷ old_closure ∷ []) (replicate 99 0)
    ∷ turning (old_file (old_row 1 1 2 3 240 1 ∷ old_row 2 1 1 3 10 1 ∷ []) []) (replicate 99 0) (4 ∷ old_second ∷ []) (replicate 99 0)
    ∷ turning (old_file (old_row 1 1 2 3 10 1 ∷ []) (closure_row 2 5 6 ∷ [])) (replicate 99 0) (4 ∷ old_closure ∷ []) (replicate 99 0)
    ∷ turning (128 ∷ 0 ∷ []) [] (2 ∷ 0 ∷ []) []
    ∷ turning (old_file [] [] ++ (0 ∷ [])) (replicate 99 0) (1 ∷ 10 ∷ []) (replicate 99 0)
    -- document 01's form has no closures: it ends early
    ∷ turning (bytes_of (cut (closed_row two_stations 3 (old_row 1 1 2 3 10 1 ∷ []) []))) (replicate 99 0) (1 ∷ 15 ∷ []) (replicate 99 0)
    -- the newest form is not W1's: its time of freight stands where a capacity is read
    ∷ turning (bytes_of net_numbers) (replicate 99 0) (3 ∷ (first_line + 5) ∷ []) (replicate 99 0)
    ∷ []

-- document 02, W5
pub recheck : List Case
recheck =
    -- an arrival moved at station 2: the finding arises at station 1, which a line joins to it, and is cleared there
    rechecks net (leaving 7 102 12) (Amend (plan 2 7 1 120 120)) [] (1 ∷ 9 ∷ 7 ∷ 0 ∷ [])
    ∷ rechecks net (leaving 7 102 12 ++ (Amend (plan 2 7 1 120 120) ∷ [])) (Amend (plan 2 7 1 114 114)) (1 ∷ 9 ∷ 7 ∷ 0 ∷ []) []
    -- s and p: the edit is of station 2, its finding at station 1, where all rules are redone
    ∷ rechecks net (place 1 7 1 100 102 ∷ relate (Connection 5 (two 7 9)) ∷ []) (append (plan 2 7 1 115 115) 1 1 12)
    (1 ∷ 4 ∷ 1 ∷ 0 ∷ []) (1 ∷ 4 ∷ 1 ∷ 0 ∷ 1 ∷ 9 ∷ 7 ∷ 0 ∷ [])
    ∷ rechecks_other net (place 1 7 1 100 102 ∷ relate (Connection 5 (two 7 9)) ∷ []) (append (plan 2 7 1 115 115) 1 1 12)
    (1 ∷ 2 ∷ 7 ∷ 8 ∷ 2 ∷ 1 ∷ 7 ∷ 0 ∷ []) (1 ∷ 4 ∷ 1 ∷ 0 ∷ 1 ∷ 9 ∷ 7 ∷ 0 ∷ [])
    -- at the joined station rules 7 to 10 alone are redone: rule 11 is kept where the list has it, and not found anew
    ∷ rechecks (closed (closure 1 90 105 ∷ [])) (leaving 7 102 12) (Amend (plan 2 7 1 120 120)) (1 ∷ 11 ∷ 7 ∷ 1 ∷ []) (1 ∷ 9 ∷ 7 ∷ 0 ∷ 1 ∷ 11 ∷ 7 ∷ 1 ∷ [])
    ∷ rechecks_other (closed (closure 1 90 105 ∷ [])) (leaving 7 102 12) (Amend (plan 2 7 1 120 120)) [] (1 ∷ 9 ∷ 7 ∷ 0 ∷ [])
    -- a list of someone else: all of it goes at the named station, 7 to 10 at the joined one, nothing elsewhere
    ∷ rechecks_other branch [] (place 1 7 1 100 102)
    (0 ∷ 7 ∷ 1 ∷ 1 ∷ 1 ∷ 2 ∷ 8 ∷ 9 ∷ 1 ∷ 99 ∷ 1 ∷ 1 ∷ 2 ∷ 6 ∷ 5 ∷ 0 ∷ 2 ∷ 7 ∷ 5 ∷ 0 ∷ 2 ∷ 10 ∷ 5 ∷ 6 ∷ 2 ∷ 11 ∷ 5 ∷ 1 ∷ 3 ∷ 7 ∷ 5 ∷ 0 ∷ 300 ∷ 10 ∷ 1 ∷ 1 ∷ [])
    (0 ∷ 7 ∷ 1 ∷ 1 ∷ 2 ∷ 6 ∷ 5 ∷ 0 ∷ 2 ∷ 11 ∷ 5 ∷ 1 ∷ 3 ∷ 7 ∷ 5 ∷ 0 ∷ 300 ∷ 10 ∷ 1 ∷ 1 ∷ [])
    -- stations 1 and 3 are joined to station 2 by lines that run one way alone
    ∷ rechecks_other branch [] (place 2 7 1 100 102) (1 ∷ 7 ∷ 5 ∷ 0 ∷ 3 ∷ 8 ∷ 5 ∷ 0 ∷ 3 ∷ 11 ∷ 5 ∷ 1 ∷ []) (3 ∷ 11 ∷ 5 ∷ 1 ∷ [])
    -- the redone ones come between and behind those that stay
    ∷ rechecks_other net (leaving 7 102 12) (Amend (plan 2 7 1 120 119)) (1 ∷ 3 ∷ 8 ∷ 9 ∷ 1 ∷ 11 ∷ 8 ∷ 1 ∷ [])
    (1 ∷ 3 ∷ 8 ∷ 9 ∷ 1 ∷ 9 ∷ 7 ∷ 0 ∷ 1 ∷ 11 ∷ 8 ∷ 1 ∷ 2 ∷ 1 ∷ 7 ∷ 0 ∷ [])
    -- "delete train redoing all": the whole list goes, also of stations that there are not
    ∷ rechecks net (leaving 7 102 9 ++ leaving 8 202 9) (delete_train 8) (1 ∷ 5 ∷ 7 ∷ 0 ∷ 1 ∷ 5 ∷ 8 ∷ 0 ∷ []) (1 ∷ 5 ∷ 7 ∷ 0 ∷ [])
    ∷ rechecks_other net (leaving 7 102 9) (delete_train 8) (2 ∷ 3 ∷ 8 ∷ 9 ∷ 300 ∷ 1 ∷ 1 ∷ 0 ∷ []) (1 ∷ 5 ∷ 7 ∷ 0 ∷ [])
    -- an area without a named station: its list is the same, and nothing is redone at the named station, nor across
    ∷ rechecks_area branch (place 2 9 1 100 100 ∷ append (plan 3 9 1 120 120) 2 4 12 ∷ []) (place 1 7 1 100 102) 2 (2 ∷ 9 ∷ 9 ∷ 0 ∷ []) (2 ∷ 9 ∷ 9 ∷ 0 ∷ [])
    ∷ rechecks_other_area branch (place 2 9 1 100 100 ∷ append (plan 3 9 1 120 120) 2 4 12 ∷ []) (place 1 7 1 102 100) 2 (1 ∷ 5 ∷ 5 ∷ 0 ∷ 3 ∷ 9 ∷ 1 ∷ 0 ∷ [])
    (2 ∷ 9 ∷ 9 ∷ 0 ∷ 3 ∷ 9 ∷ 1 ∷ 0 ∷ [])
    ∷ rechecks_area net (leaving 7 102 12) (Amend (plan 2 7 1 120 120)) 1 [] []
    -- "3 unless it rises": strictly, by all four numbers, in whole findings
    ∷ list_is [] true
    ∷ list_is (1 ∷ 2 ∷ 3 ∷ 4 ∷ 1 ∷ 2 ∷ 3 ∷ 5 ∷ []) true
    ∷ list_is (1 ∷ 2 ∷ 3 ∷ 4 ∷ 2 ∷ 1 ∷ 1 ∷ 1 ∷ []) true
    ∷ list_is (1 ∷ 2 ∷ 3 ∷ 4 ∷ 1 ∷ 2 ∷ 3 ∷ 4 ∷ []) false
    ∷ list_is (1 ∷ 2 ∷ 3 ∷ 4 ∷ 1 ∷ 2 ∷ 3 ∷ 3 ∷ []) false
    ∷ list_is (1 ∷ 1 ∷ 1 ∷ 1 ∷ 3 ∷ 1 ∷ 1 ∷ 1 ∷ 2 ∷ 1 ∷ 1 ∷ 1 ∷ []) false
    ∷ list_is (1 ∷ 2 ∷ 3 ∷ 4 ∷ 5 ∷ []) false
    ∷ []

-- document 02, W6
pub request_stops : List Case
request_stops =
    -- "A request stop arrives and departs in one minute, and connections there are reported unmet": with the mark met;
    -- unmet by the interval
    stands net (request false false (Connection 0 (two 7 8))) (finding (st 1) 4 1 0) true
    ∷ stands net (request true false (Connection 0 (two 7 8))) (finding (st 1) 4 1 0) false
    ∷ stands net (request true false (Connection 1 (two 7 8))) (finding (st 1) 4 1 0) true
    -- a disconnection that the mark makes unmet, and a dependency that it makes met
    ∷ stands net (request false false (Disconnection 5 (two 7 8))) (finding (st 1) 4 1 0) false
    ∷ stands net (request true false (Disconnection 5 (two 7 8))) (finding (st 1) 4 1 0) true
    ∷ stands net (request false false (Dependency 0 (pair 8 7))) (finding (st 1) 4 1 0) true
    ∷ stands net (request true false (Dependency 0 (pair 8 7))) (finding (st 1) 4 1 0) false
    -- "amending sets it anew", after an occurred arrival too; reports and links keep it
    ∷ answered_on (request false true (Connection 0 (two 7 8))) (Amend (marked_plan 1 7 1 true 110 110) ∷ []) (0 ∷ 0 ∷ [])
    ∷ stands net (later (request false true (Connection 0 (two 7 8))) (Amend (marked_plan 1 7 1 true 110 110) ∷ [])) (finding (st 1) 4 1 0) false
    ∷ stands net (later (request true true (Connection 0 (two 7 8))) (Amend (plan 1 7 1 110 110) ∷ [])) (finding (st 1) 4 1 0) true
    ∷ stands net (later (request true false (Connection 0 (two 7 8))) (arrives 1 7 110 ∷ departs 1 7 110 ∷ [])) (finding (st 1) 4 1 0) false
    ∷ stands net (later (request true false (Connection 0 (two 7 8))) (arrives 1 7 109 ∷ [])) (finding (st 1) 4 1 0) false
    -- each edit with a track carries it: placed, prepended, appended; a link set later keeps it
    ∷ projected (run_of (Place (marked_plan 1 7 1 true 100 100) ∷ [])) 7 1 105 (1 ∷ 105 ∷ 106 ∷ 0 ∷ 5 ∷ [])
    ∷ projected (run_in branch (place 3 7 1 122 122 ∷ prepend (marked_plan 2 7 1 true 110 110) 3 4 12 ∷ prepend (plan 1 7 1 98 98) 2 1 12 ∷ [])) 7 2 105
    (2 ∷ 105 ∷ 110 ∷ 1 ∷ 5 ∷ 3 ∷ 122 ∷ 123 ∷ 0 ∷ 0 ∷ [])
    ∷ projected (run_in branch (place 1 7 1 98 98 ∷ append (marked_plan 2 7 1 true 110 110) 1 1 12 ∷ append (plan 3 7 1 122 122) 2 4 12 ∷ [])) 7 2 105
    (2 ∷ 105 ∷ 110 ∷ 1 ∷ 5 ∷ 3 ∷ 122 ∷ 123 ∷ 0 ∷ 0 ∷ [])
    -- "where only the mark makes a stop, projected departure is the larger of planned departure and arrival": above it
    -- and below it, and where the visit stops anyway; an occurred arrival stands
    ∷ projected (request false false (Connection 0 (two 7 8))) 7 1 105 (1 ∷ 105 ∷ 105 ∷ 1 ∷ 5 ∷ [])
    ∷ projected (request true false (Connection 0 (two 7 8))) 7 1 105 (1 ∷ 105 ∷ 110 ∷ 1 ∷ 5 ∷ [])
    ∷ projected (request true false (Connection 0 (two 7 8))) 7 1 110 (1 ∷ 110 ∷ 110 ∷ 0 ∷ 0 ∷ [])
    ∷ projected (request true false (Connection 0 (two 7 8))) 7 1 115 (1 ∷ 115 ∷ 115 ∷ 0 ∷ 5 ∷ [])
    ∷ projected (request true true (Connection 0 (two 7 8))) 7 1 115 (1 ∷ 110 ∷ 110 ∷ 0 ∷ 0 ∷ [])
    ∷ projected (run_of (Place (marked_plan 1 7 1 true 100 102) ∷ [])) 7 1 105 (1 ∷ 105 ∷ 106 ∷ 0 ∷ 5 ∷ [])
    -- a mark on a visit that stops anyway is kept: two such files differ
    ∷ timetable_file net (bytes_of (1 ∷ 1 ∷ 7 ∷ 1 ∷ 1 ∷ 100 ∷ 0 ∷ 102 ∷ 0 ∷ 0 ∷ 0 ∷ 0 ∷ [])) (0 ∷ 12 ∷ 1 ∷ 1 ∷ 7 ∷ 1 ∷ 1 ∷ 100 ∷ 0 ∷ 102 ∷ 0 ∷ 0 ∷ 0 ∷ 0 ∷ [])
    -- a mark of 2; a fault behind it, in both forms; the newest form is not the earlier one
    ∷ edits_file (bytes_of (each_with (marked_row 1 7 1 1 100 102) (report_row 1 7 100))) (0 ∷ size each_kind ∷ 1 ∷ each_with (marked_row 1 7 1 1 100 102) (report_row 1 7 100))
    ∷ early_edits_file (bytes_of (each_with (1 ∷ 7 ∷ 1 ∷ 100 ∷ 102 ∷ []) (1 ∷ 7 ∷ 100 ∷ []))) (0 ∷ (size each_kind - 8) ∷ 1 ∷ each_kind)
    ∷ edits_file (bytes_of (1 ∷ edit_row 1 (marked_row 1 7 1 2 100 102))) (3 ∷ 5 ∷ [])
    ∷ edits_file (bytes_of (1 ∷ edit_row 6 (marked_row 1 7 1 2 100 102))) (3 ∷ 5 ∷ [])
    ∷ edits_file (bytes_of (1 ∷ edit_row 2 (extension_row (marked_row 1 7 1 2 100 102) 2 1 12))) (3 ∷ 5 ∷ [])
    ∷ edits_file (bytes_of (1 ∷ edit_row 6 (marked_row 1 7 1 1 100 2880))) (3 ∷ 7 ∷ [])
    ∷ early_edits_file (bytes_of (1 ∷ 6 ∷ 1 ∷ 7 ∷ 1 ∷ 100 ∷ 2880 ∷ [])) (3 ∷ 6 ∷ [])
    ∷ early_edits_file (bytes_of (1 ∷ edit_row 1 (marked_row 1 7 1 0 100 102))) (1 ∷ 7 ∷ [])
    ∷ edits_file (bytes_of (1 ∷ 1 ∷ 1 ∷ 7 ∷ 1 ∷ 0 ∷ 102 ∷ [])) (1 ∷ 7 ∷ [])
    ∷ timetable_file net (bytes_of (1 ∷ 1 ∷ 7 ∷ 1 ∷ 2 ∷ 100 ∷ 0 ∷ 102 ∷ 0 ∷ 0 ∷ 0 ∷ 0 ∷ [])) (3 ∷ 4 ∷ [])
    ∷ early_timetable_file net (bytes_of (1 ∷ 1 ∷ 7 ∷ 1 ∷ 0 ∷ 100 ∷ 0 ∷ 102 ∷ 0 ∷ 0 ∷ 0 ∷ 0 ∷ [])) (3 ∷ 5 ∷ [])
    ∷ []

-- document 02, W7
pub future_reports : List Case
future_reports =
    -- "later than the minute it carries": the same minute is taken, one minute later is not; both reports
    answered net (place 1 7 1 100 102 ∷ arrives_by 1 7 105 105 ∷ arrives_by 1 7 106 105 ∷ departs_by 1 7 107 107 ∷ departs_by 1 7 108 107 ∷ [])
    (0 ∷ 0 ∷ 0 ∷ 0 ∷ 15 ∷ 0 ∷ 0 ∷ 0 ∷ 15 ∷ 0 ∷ [])
    ∷ answered net (place 1 7 1 100 102 ∷ arrives_by 1 7 0 0 ∷ arrives_by 1 7 1 0 ∷ arrives_by 1 7 2879 2879 ∷ arrives_by 1 7 2879 2878 ∷ [])
    (0 ∷ 0 ∷ 0 ∷ 0 ∷ 15 ∷ 0 ∷ 0 ∷ 0 ∷ 15 ∷ 0 ∷ [])
    -- "A clock that goes back is allowed, since each report is judged by its own minute."
    ∷ answered net (place 1 7 1 100 102 ∷ arrives_by 1 7 105 110 ∷ departs_by 1 7 90 95 ∷ departs_by 1 7 96 95 ∷ arrives_by 1 7 111 112 ∷ [])
    (0 ∷ 0 ∷ 0 ∷ 0 ∷ 0 ∷ 0 ∷ 15 ∷ 0 ∷ 0 ∷ 0 ∷ [])
    -- "tested straight after 3": 15 before 7 of an unknown station and before 9 of a missing visit, 3 before 15
    ∷ answered net (arrives_by 3 7 106 105 ∷ arrives_by 3 7 105 105 ∷ departs_by 1 7 106 105 ∷ departs_by 1 7 105 105 ∷ []) (15 ∷ 0 ∷ 7 ∷ 0 ∷ 15 ∷ 0 ∷ 9 ∷ 0 ∷ [])
    ∷ answered net (place 1 7 1 100 102 ∷ arrives_by 1 7 100 2880 ∷ arrives_by 1 7 2880 2879 ∷ arrives_by 17 7 106 105 ∷ departs_by 1 0 106 105 ∷ [])
    (0 ∷ 0 ∷ 3 ∷ 0 ∷ 3 ∷ 0 ∷ 3 ∷ 0 ∷ 3 ∷ 0 ∷ [])
    -- "(of numbers so placed the higher first)": before 14 and 4 of the network, behind its 3
    ∷ refused_early (closed (closure 1 100 100 ∷ [])) (arrives_by 1 7 106 105) 15
    ∷ refused_early (closed (closure 1 100 100 ∷ [])) (arrives_by 1 7 105 105) 14
    ∷ refused_early (closed (closure 2 100 110 ∷ [])) (departs_by 1 7 106 105) 15
    ∷ refused_early (closed (closure 2 100 110 ∷ [])) (departs_by 1 7 105 105) 4
    ∷ refused_early (network [] 3 []) (arrives_by 1 7 106 105) 3
    ∷ refused_early net (arrives_by 1 7 106 105) 15
    -- "such an edit names no area", and changes nothing; amendments are not judged
    ∷ naming net (arrives_by 1 7 106 105) []
    ∷ naming net (arrives_by 1 7 105 105) (1 ∷ [])
    ∷ projected (run_of (place 1 7 1 100 102 ∷ arrives_by 1 7 106 105 ∷ [])) 7 1 120 (1 ∷ 120 ∷ 121 ∷ 0 ∷ 20 ∷ [])
    ∷ projected (run_of (place 1 7 1 100 102 ∷ arrives_by 1 7 106 106 ∷ [])) 7 1 120 (1 ∷ 106 ∷ 107 ∷ 0 ∷ 0 ∷ [])
    ∷ answered net (place 1 7 1 100 102 ∷ arrives_by 1 7 100 100 ∷ Amend (plan 1 7 1 100 2879) ∷ []) (0 ∷ 0 ∷ 0 ∷ 0 ∷ 0 ∷ 0 ∷ [])
    -- it "counts as refused"
    ∷ tallied (counted 1 2 3 4) (arrives_by 1 7 106 105) (told 15 0) (0 ∷ 65 ∷ 1 ∷ 3 ∷ 3 ∷ 4 ∷ [])
    -- files: the minute is the last field, and 15 never a file's; 2880 is 3 at it, an earlier report carries 2879
    ∷ edits_file (bytes_of (1 ∷ edit_row 7 (dated_row 1 7 106 105))) (0 ∷ 6 ∷ 1 ∷ 1 ∷ edit_row 7 (dated_row 1 7 106 105))
    ∷ edits_file (bytes_of (1 ∷ edit_row 7 (dated_row 1 7 105 2880))) (3 ∷ 5 ∷ [])
    ∷ edits_file (bytes_of (1 ∷ edit_row 8 (dated_row 1 300 105 2880))) (3 ∷ 6 ∷ [])
    ∷ edits_file (bytes_of (1 ∷ edit_row 8 (cut (dated_row 1 7 105 0)))) (1 ∷ 5 ∷ [])
    ∷ early_edits_file (bytes_of (1 ∷ edit_row 8 (1 ∷ 7 ∷ 105 ∷ []))) (0 ∷ 5 ∷ 1 ∷ 1 ∷ edit_row 8 (dated_row 1 7 105 2879))
    ∷ early_edits_file (bytes_of (1 ∷ edit_row 7 (dated_row 1 7 105 105))) (1 ∷ 5 ∷ [])
    ∷ early_edits_file (bytes_of (1 ∷ edit_row 7 (1 ∷ 7 ∷ 2880 ∷ []))) (3 ∷ 4 ∷ [])
    -- the program prints it as an edit's answer
    ∷ printed (place 1 7 1 100 102 ∷ departs_by 1 7 103 102 ∷ [])
    ((69 ∷ 1 ∷ 0 ∷ 0 ∷ [])
    ∷ (69 ∷ 2 ∷ 15 ∷ 0 ∷ [])
    ∷ (84 ∷ 1 ∷ 0 ∷ 0 ∷ [])
    ∷ (65 ∷ 1 ∷ 1 ∷ 1 ∷ 0 ∷ [])
    ∷ [])
    ∷ []

pub table : List Case
unfolding document ranges edits rules relations others files closures standing_trains freight recheck request_stops future_reports
table = document ++ (ranges ++ (edits ++ (rules ++ (relations ++ (others ++ (files ++ (closures ++ (standing_trains ++ (freight ++ (recheck ++ (request_stops ++ future_reports)))))))))))

pub examples_hold : failing 1 table ≡ []
unfolding table Cases.opened
examples_hold = refl
