-- The kinds of cases of the examples' table, the test of a case, and short forms to write cases with. Assumes nothing.
use Rattle.std.specs.Prelude.{ℕ, zero, suc, ◌+◌, ◌-◌, Bool, false, ◌&&◌, eqb, ℤ, pos, negsuc, length}
use Rattle.std.specs.Bool.{beq}
use mathlib.Core.List.{List, [], ◌∷◌, ◌++◌, flat_map}
use Rattle.std.specs.Prelude.{Option, None, Some}
use Rattle.std.specs.Prelude.{if◌then◌else◌}
use Rattle.base.specs.Lists as Lists
use Rattle.base.specs.Lists.{any, keep, same}
use Rattle.base.specs.Runs as Runs
use Rattle.base.specs.Runs.{run, answers}
use Rattle.numbers.specs.Numbers as Numbers
use Rattle.numbers.specs.Numbers.{NumberRead, Value, Refused, read_number, write_number}
use Rattle.railway.specs.Relations as Relations
use Rattle.railway.specs.Relations.{key}
use Rattle.railway.specs.Edits as Edits
use Rattle.network.specs.Networks as Networks
use Rattle.network.specs.Networks.{network_refusal, area_of}
use Rattle.timetable.specs.Types.{Station, Train, Line, Minute, InLink, OutLink, Trains, Pair}
use Rattle.timetable.specs.Types.{Relation, Connection, Plan}
use Rattle.timetable.specs.Types.{Edit, Place, Prepend, Append, DeleteFirst, DeleteLast}
use Rattle.timetable.specs.Types.{ReportArrival, ReportDeparture, AddRelation, RemoveRelation, DeleteTrain}
use Rattle.timetable.specs.Types.{StationRow, LineRow, Closure, Network, NetworkForm, FileForm, Answer, Finding, Row, Tally}
use Rattle.timetable.specs.Refusals as Refusals
use Rattle.timetable.specs.Refusals.{early}
use Rattle.timetable.specs.Formats as Formats
use Rattle.timetable.specs.Formats.{Outcome, accepted, refused, Placed}
use Rattle.timetable.specs.FileForms as FileForms
use Rattle.timetable.specs.FileForms.{newest_form}
use Rattle.timetable.specs.NetworkFile as NetworkFile
use Rattle.timetable.specs.NetworkFile.{network_with, network_numbers, read_network}
use Rattle.timetable.specs.Outputs as Outputs
use Rattle.timetable.specs.Outputs.{Reply}
use Rattle.timetable.specs.Turning as Turning
use Rattle.timetable.specs.Turning.{turn_reply, turn_after}
use Rattle.timetable.specs.EditsFile as EditsFile
use Rattle.timetable.specs.EditsFile.{Shift, edits_numbers, read_edits_as, read_edits, read_shift}
use Rattle.timetable.specs.TimetableFile as TimetableFile
use Rattle.timetable.specs.TimetableFile.{read_timetable_as, read_timetable, timetable_numbers}
use Rattle.timetable.specs.Pieces as Pieces
use Rattle.timetable.specs.Visits as Visits
use Rattle.timetable.specs.Tables as Tables
use Rattle.timetable.specs.Tables.{Entry, Table}
use Rattle.timetable.specs.Reports as Reports
use Rattle.timetable.specs.Machine as Machine
use Rattle.timetable.specs.Machine.{Timetable, put, nothing_placed, edit_refusal, answer, after}
use Rattle.timetable.specs.Groups as Groups
use Rattle.timetable.specs.Groups.{names_group, divide}
use Rattle.timetable.specs.Good as Good
use Rattle.timetable.specs.Good.{table_good}
use Rattle.timetable.specs.Rules as Rules
use Rattle.timetable.specs.Findings as Findings
use Rattle.timetable.specs.Findings.{findings, numbers_of, own_list, pair_list}
use Rattle.timetable.specs.Recheck as Recheck
use Rattle.timetable.specs.Recheck.{updated_numbers, list_rises}
use Rattle.timetable.specs.Projection as Projection
use Rattle.timetable.specs.Projection.{projection}
use Rattle.timetable.specs.Count as Count
use Rattle.timetable.specs.Count.{raise, raise_refusal}
use Rattle.timetable.specs.Listing as Listing
use Rattle.timetable.specs.Listing.{listing, finding_line, tally_line}

-- short forms

unfoldable pub st : ℕ → Station
st s = record { 0 = s }

unfoldable pub tr : ℕ → Train
tr t = record { 0 = t }

unfoldable pub ln : ℕ → Line
ln l = record { 0 = l }

unfoldable pub at : ℕ → Minute
at m = record { 0 = m }

-- with its mark; without one
unfoldable pub marked_plan : ℕ → ℕ → ℕ → Bool → ℕ → ℕ → Plan
marked_plan s t k m a d = record { station = st s; train = tr t; track = record { 0 = k }; marked = m; arrival = at a; departure = at d }

unfoldable pub plan : ℕ → ℕ → ℕ → ℕ → ℕ → Plan
plan s t k a d = marked_plan s t k false a d

-- s, t, track, arrival, departure
unfoldable pub place : ℕ → ℕ → ℕ → ℕ → ℕ → Edit
place s t k a d = Place (plan s t k a d)

-- the plan, then p, line, running time
unfoldable pub prepend : Plan → ℕ → ℕ → ℕ → Edit
prepend p q l r = Prepend (record { plan = p; other = st q; line = ln l; run = r })

unfoldable pub append : Plan → ℕ → ℕ → ℕ → Edit
append p q l r = Append (record { plan = p; other = st q; line = ln l; run = r })

unfoldable pub delete_first : ℕ → ℕ → ℕ → Edit
delete_first s t p = DeleteFirst (record { station = st s; train = tr t; other = st p })

unfoldable pub delete_last : ℕ → ℕ → ℕ → Edit
delete_last s t p = DeleteLast (record { station = st s; train = tr t; other = st p })

-- s, t, time, and the minute that it carries; with the last minute
unfoldable pub arrives_by : ℕ → ℕ → ℕ → ℕ → Edit
arrives_by s t m p = ReportArrival (record { station = st s; train = tr t; time = at m; present = at p })

unfoldable pub departs_by : ℕ → ℕ → ℕ → ℕ → Edit
departs_by s t m p = ReportDeparture (record { station = st s; train = tr t; time = at m; present = at p })

unfoldable pub arrives : ℕ → ℕ → ℕ → Edit
arrives s t m = arrives_by s t m 2879

unfoldable pub departs : ℕ → ℕ → ℕ → Edit
departs s t m = departs_by s t m 2879

unfoldable pub relate : Relation → Edit
relate r = AddRelation (record { station = st 1; relation = r })

unfoldable pub unrelate : Relation → Edit
unrelate r = RemoveRelation (record { station = st 1; relation = r })

unfoldable pub delete_train : ℕ → Edit
delete_train t = DeleteTrain (record { train = tr t })

unfoldable pub four : ℕ → ℕ → ℕ → ℕ → Trains
four a b c d = record { a = tr a; b = tr b; c = tr c; d = tr d }

unfoldable pub two : ℕ → ℕ → Trains
two a b = four a b 0 0

unfoldable pub pair : ℕ → ℕ → Pair
pair a d = record { arriver = tr a; departer = tr d }

unfoldable pub station : ℕ → ℕ → ℕ → StationRow
station s a k = record { station = st s; area = record { 0 = a }; tracks = k }

-- with its two least times; with both the same
unfoldable pub timed_line : ℕ → ℕ → ℕ → ℕ → ℕ → ℕ → ℕ → LineRow
timed_line l a b k p f c = record { line = ln l; first = st a; second = st b; kind = k; passenger = p; freight = f; capacity = c }

unfoldable pub line : ℕ → ℕ → ℕ → ℕ → ℕ → ℕ → LineRow
line l a b k r c = timed_line l a b k r r c

unfoldable pub network : List StationRow → ℕ → List LineRow → Network
network ss h ls = network_with (record { stations = ss; headway = h; lines = ls; closures = [] })

-- line, start, end
unfoldable pub closure : ℕ → ℕ → ℕ → Closure
closure l a b = record { line = ln l; start = at a; end = record { 0 = b } }

-- the listing's stations, lines between them, and closures
unfoldable pub closed_lines : List LineRow → List Closure → Network
closed_lines ls cs = network_with (record { stations = station 1 1 2 ∷ station 2 2 1 ∷ []; headway = 3; lines = ls; closures = cs })

unfoldable pub closed : List Closure → Network
closed cs = closed_lines (line 1 1 2 3 10 1 ∷ []) cs

-- so many closures of line 1, a minute each
unfoldable pub windows : ℕ → List Closure
windows zero = []
windows (suc k) = windows k ++ (closure 1 k (suc k) ∷ [])

-- the listing's stations, and a line between them with two least times
unfoldable pub timed : ℕ → ℕ → Network
timed p f = network (station 1 1 2 ∷ station 2 2 1 ∷ []) 3 (timed_line 1 1 2 3 p f 1 ∷ [])

-- the network of the listing: `2, 1 1 2, 2 2 1, 3, 1, 1 1 2 3 10 1`
unfoldable pub with_capacity : ℕ → Network
with_capacity c = network (station 1 1 2 ∷ station 2 2 1 ∷ []) 3 (line 1 1 2 3 10 c ∷ [])

unfoldable pub net : Network
net = with_capacity 1

-- stations 1, 2 and 3 in areas 1, 2 and 2; line 1 runs from 1 to 2, line 2 from 3 to 2, line 3 either way between 1 and
-- 2, line 4 between 2 and 3
unfoldable pub branch : Network
branch =
    network (station 1 1 2 ∷ station 2 2 2 ∷ station 3 2 2 ∷ []) 3
    (line 1 1 2 1 10 1 ∷ line 2 2 3 2 10 1 ∷ line 3 1 2 3 10 2 ∷ line 4 2 3 3 10 1 ∷ [])

-- the train leaves station 1 at d for station 2 on line 1, with a run of r
unfoldable pub leaving : ℕ → ℕ → ℕ → List Edit
leaving t d r = place 2 t 1 (d + r) (d + r) ∷ prepend (plan 1 t 1 d d) 2 1 r ∷ []

-- the train leaves station 2 for station 1 so that it arrives at a
unfoldable pub inbound : ℕ → ℕ → List Edit
inbound t a = place 2 t 1 (a - 12) (a - 12) ∷ append (plan 1 t 2 a a) 2 1 12 ∷ []

-- k trains from the given number at station 1
unfoldable pub crowd : ℕ → ℕ → List Edit
crowd from zero = []
crowd from (suc k) = place 1 from 1 100 102 ∷ crowd (suc from) k

-- k connections at station 1
unfoldable pub connections : ℕ → List Edit
connections zero = []
connections (suc k) = relate (Connection k (two 7 8)) ∷ connections k

-- a visit on track 1, given directly, with its mark, statuses and links; without a mark
unfoldable pub stopping : ℕ → Bool → ℕ → Bool → ℕ → Bool → InLink → OutLink → Entry
stopping t m a x d y i o = record {
  train = tr t;
  visit = record { track = record { 0 = 1 }; marked = m; arrival = at a; arrived = x; departure = at d; departed = y; inward = i; outward = o };
}

unfoldable pub visiting : ℕ → ℕ → Bool → ℕ → Bool → InLink → OutLink → Entry
visiting t a x d y i o = stopping t false a x d y i o

-- links: station and line; outwards with the running time
unfoldable pub by : ℕ → ℕ → InLink
by p l = InLink.From (record { station = st p; line = ln l })

unfoldable pub to : ℕ → ℕ → ℕ → OutLink
to p l r = OutLink.To (record { station = st p; line = ln l; run = r })

unfoldable pub tabled : List Entry → List Relation → Table
tabled es rs = record { visits = es; relations = rs }

-- the tables of stations 1 and 2, the others bare
unfoldable pub standing : Table → Table → Timetable
standing one two = put (st 1) one (put (st 2) two nothing_placed)

unfoldable pub bare : Table
bare = tabled [] []

-- train 7 arrives at station 1 and goes on in one minute, marked or not, arrived or not; train 8 stops there meanwhile;
-- one relation
unfoldable pub request : Bool → Bool → Relation → Timetable
request m x r =
    standing (tabled (stopping 7 m 110 x 110 false (by 2 1) (to 2 1 12) ∷ visiting 8 105 false 112 false InLink.Nothing OutLink.Nothing ∷ []) (r ∷ [])) bare

-- the listing's timetable after edits
unfoldable pub later : Timetable → List Edit → Timetable
later m es = run (after net) es m

unfoldable pub counted : ℕ → ℕ → ℕ → ℕ → Tally
counted a r d m = record { accepted = a; refused = r; added = d; removed = m }

unfoldable pub told : ℕ → ℕ → Answer
told r c = record { refusal = r; removed = c }

-- what the edits make of an empty timetable
unfoldable pub run_in : Network → List Edit → Timetable
run_in n es = run (after n) es nothing_placed

unfoldable pub run_of : List Edit → Timetable
run_of es = run_in net es

-- an area's list, from its part of the divided timetable
unfoldable pub area_part : Network → ℕ → Timetable → List Finding
area_part n a m = own_list n (area_of n) (divide (area_of n) m) a

-- the edits of the listing
unfoldable pub listed_edits : List Edit
listed_edits = place 1 7 1 100 102 ∷ append (plan 2 7 1 115 115) 1 1 12 ∷ place 1 7 1 100 102 ∷ relate (Connection 5 (two 7 9)) ∷ []

-- cases

pub data Case : Type 0 where
  -- the number's bytes, which read back as the number
  bytes : ℕ → List ℕ → Case
  -- reading the bytes is refused with the number
  unread : List ℕ → ℕ → Case
  -- what reading a file gives: 0, the place behind it and the numbers of what was read; or the refusal and its place
  network_file : List ℕ → List ℕ → Case
  -- turning a file of W1's form into a buffer: the answer's number and what comes along, and the buffer afterwards
  turning : List ℕ → List ℕ → List ℕ → List ℕ → Case
  edits_file : List ℕ → List ℕ → Case
  shift_file : List ℕ → List ℕ → Case
  timetable_file : Network → List ℕ → List ℕ → Case
  -- the same of files in the earlier form; the numbers of what was read are those of the newest
  early_edits_file : List ℕ → List ℕ → Case
  early_timetable_file : Network → List ℕ → List ℕ → Case
  -- after the edits on an empty timetable the finding is listed, or not
  found : Network → List Edit → Finding → Bool → Case
  -- in the timetable, given directly, the finding is listed, or not
  stands : Network → Timetable → Finding → Bool → Case
  -- after the edits these are the relations of station 1
  related : List Edit → List Relation → Case
  -- the answers to the edits, refusal and removed in turn
  answered : Network → List Edit → List ℕ → Case
  -- the answers to the edits on the timetable, given directly
  answered_on : Timetable → List Edit → List ℕ → Case
  -- the relations' order: each is before the next
  ordered : List Relation → Bool → Case
  -- the network's refusal, 0 for a good one
  network_is : Network → ℕ → Case
  -- the first refusal of an edit and a network, before any sheet is looked at
  refused_early : Network → Edit → ℕ → Case
  -- the areas of 1..6 that the edit names
  naming : Network → Edit → List ℕ → Case
  -- the table is good at station 1, or not
  table_is : Table → Bool → Case
  -- the findings of an area, of a pair of areas, formed from their parts of the divided timetable, as numbers
  area_has : Network → Timetable → ℕ → List ℕ → Case
  pair_has : Network → Timetable → ℕ → ℕ → List ℕ → Case
  -- after the edits the whole list is the first; one edit more, and it is updated to the second; the same of an area's
  rechecks : Network → List Edit → Edit → List ℕ → List ℕ → Case
  rechecks_area : Network → List Edit → Edit → ℕ → List ℕ → List ℕ → Case
  -- a list of someone else is updated to the last; the same with an area's findings
  rechecks_other : Network → List Edit → Edit → List ℕ → List ℕ → Case
  rechecks_other_area : Network → List Edit → Edit → ℕ → List ℕ → List ℕ → Case
  -- the list rises, or not
  list_is : List ℕ → Bool → Case
  -- the rows of a projection: station, arrival, departure, 1 if early, minutes
  projected : Timetable → ℕ → ℕ → ℕ → List ℕ → Case
  -- raising the tally by an edit and its answer: the refusal, and the tally after
  tallied : Tally → Edit → Answer → List ℕ → Case
  -- what shift prints
  printed : List Edit → List (List ℕ) → Case

unfoldable pub reads_as : ℕ → ℕ → NumberRead → Bool
reads_as n w (Value k used) = eqb n k && eqb w used
reads_as n w (Refused k) = false

unfoldable pub reads_refused : ℕ → NumberRead → Bool
reads_refused n (Value k used) = false
reads_refused n (Refused k) = eqb n k

unfoldable pub lists : Finding → List Finding → Bool
lists f fs = any (λ g. same (finding_line f) (finding_line g)) fs

unfoldable pub answer_numbers : List Answer → List ℕ
answer_numbers as' = flat_map (λ a. a.refusal ∷ a.removed ∷ []) as'

unfoldable pub signed : ℤ → List ℕ
signed (pos k) = 0 ∷ k ∷ []
signed (negsuc k) = 1 ∷ suc k ∷ []

unfoldable pub row_numbers : List Row → List ℕ
row_numbers rs = flat_map (λ r. r.station.0 ∷ r.arrival ∷ r.departure ∷ signed r.lateness) rs

unfoldable pub each_before : List Relation → Bool
each_before rs = Lists.each_two Relations.precedes rs

unfoldable pub outcome_numbers : {A : Type 0} → (A → List ℕ) → Outcome A → List ℕ
outcome_numbers f (accepted a next) = 0 ∷ next ∷ f a
outcome_numbers f (refused k p) = k ∷ p ∷ []

unfoldable pub placed_edits : Placed (List Edit) → List ℕ
placed_edits p = p.place ∷ edits_numbers newest_form p.entry

unfoldable pub shift_numbers : Shift → List ℕ
shift_numbers x = network_numbers x.network ++ placed_edits x.edits

unfoldable pub along : Option ℕ → List ℕ
along None = []
along (Some k) = k ∷ []

unfoldable pub reply_numbers : Reply → List ℕ
reply_numbers r = r.number ∷ (along r.place ++ along r.size)

unfoldable pub passes : Case → Bool
passes (bytes n bs) = same (write_number n) bs && reads_as n (length bs) (read_number bs)
passes (unread bs k) = reads_refused k (read_number bs)
passes (network_file bs ks) = same ks (outcome_numbers network_numbers (read_network bs))
passes (turning bs out ks left) =
    same ks (reply_numbers (turn_reply NetworkForm.OneTime bs out)) && same left (turn_after NetworkForm.OneTime bs out)
passes (edits_file bs ks) = same ks (outcome_numbers placed_edits (read_edits bs))
passes (shift_file bs ks) = same ks (outcome_numbers shift_numbers (read_shift bs))
passes (timetable_file n bs ks) = same ks (outcome_numbers (timetable_numbers n) (read_timetable n bs))
passes (early_edits_file bs ks) = same ks (outcome_numbers placed_edits (read_edits_as FileForm.Earlier bs))
passes (early_timetable_file n bs ks) = same ks (outcome_numbers (timetable_numbers n) (read_timetable_as FileForm.Earlier n bs))
passes (found n es f b) = beq b (lists f (findings n (run_in n es)))
passes (stands n m f b) = beq b (lists f (findings n m))
passes (related es rs) = same (flat_map key (run_of es (st 1)).relations) (flat_map key rs)
passes (answered n es ks) = same ks (answer_numbers (answers (after n) (answer n) es nothing_placed))
passes (answered_on m es ks) = same ks (answer_numbers (answers (after net) (answer net) es m))
passes (ordered rs b) = beq b (each_before rs)
passes (network_is n k) = eqb k (network_refusal n)
passes (refused_early n e k) = eqb k (early (edit_refusal e) (network_refusal n) 0)
passes (naming n e gs) = same gs (keep (names_group n (area_of n) e) (1 ∷ 2 ∷ 3 ∷ 4 ∷ 5 ∷ 6 ∷ []))
passes (table_is tab b) = beq b (table_good net (st 1) tab)
passes (area_has n m a ks) = same ks (numbers_of (area_part n a m))
passes (pair_has n m a b ks) = same ks (numbers_of (pair_list n (area_of n) (divide (area_of n) m) (a, b)))
passes (rechecks n es e ks later) =
    same ks (numbers_of (findings n (run_in n es))) && same later (updated_numbers n e ks (findings n (after n e (run_in n es))))
passes (rechecks_area n es e a ks later) =
    same ks (numbers_of (area_part n a (run_in n es))) && same later (updated_numbers n e ks (area_part n a (after n e (run_in n es))))
passes (rechecks_other n es e ks later) = same later (updated_numbers n e ks (findings n (after n e (run_in n es))))
passes (rechecks_other_area n es e a ks later) = same later (updated_numbers n e ks (area_part n a (after n e (run_in n es))))
passes (list_is ks b) = beq b (list_rises ks)
passes (projected m t s a ks) = same ks (row_numbers (projection m (tr t) (st s) a))
passes (tallied y e a ks) = same ks (raise_refusal y a ∷ tally_line (raise y e a))
passes (printed es ls) = same (flat_map (λ l. l) (listing net es)) (flat_map (λ l. l) ls)

-- the cases that fail, by their place from 1
unfoldable pub failing : ℕ → List Case → List ℕ
failing k [] = []
failing k (c ∷ cs) = if passes c then failing (suc k) cs else (k ∷ failing (suc k) cs)

-- The key ring of this module and of all that it computes with.
unfoldable pub opened : Unit {0}
unfolding st tr ln at marked_plan plan place prepend append delete_first delete_last arrives_by departs_by arrives departs relate unrelate delete_train four two pair station timed_line line network closure closed_lines closed windows
    timed with_capacity net branch leaving inbound crowd connections stopping visiting by to tabled standing bare request later counted told run_in run_of area_part listed_edits
    outcome_numbers placed_edits shift_numbers reads_as reads_refused lists answer_numbers signed row_numbers each_before along reply_numbers passes failing
    Lists.opened Runs.opened Numbers.opened Relations.opened Edits.opened Networks.opened
    Refusals.opened Formats.opened FileForms.opened NetworkFile.opened Outputs.opened Turning.opened EditsFile.opened TimetableFile.opened Pieces.opened
    Visits.opened Tables.opened Reports.opened Machine.opened Groups.opened Good.opened Rules.opened Findings.opened Recheck.opened Projection.opened Count.opened Listing.opened
opened = tt
