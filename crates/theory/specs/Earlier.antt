-- The release before W6, kept as it was: visits without a stop mark, when they stop, tables of them, reports without a
-- minute, the machine, and the timetable file in which such a release hands its sheet over. Document 01, "The railway
-- and its numbers", "The central machine" and "Files". Document 02, W6, speaks of "two control rooms at different
-- releases"; what it claims of them is in Releases. Networks, relations and deletions, which have not changed since,
-- are shared with the newest release. Assumes nothing.
use Rattle.std.specs.Prelude.{ℕ, Bool, true, false, not, ◌&&◌, ◌||◌, ltb, leb, eqb, length}
use mathlib.Core.List.{List, [], ◌∷◌, ◌++◌, map, flat_map}
use Rattle.std.specs.Prelude.{option_map, Option}
use Rattle.base.specs.Choice.{◌if◌else◌}
use Rattle.std.specs.Prelude.{if◌then◌else◌}
use Rattle.base.specs.Lists.{any, keep, first, is, count}
use Rattle.railway.specs.Ranges.{station_ok, train_ok, track_ok, line_ok, minute_ok, run_ok, same_station, same_train, same_track, same_line, same_minute}
use Rattle.railway.specs.Relations.{same_relation}
use Rattle.railway.specs.Edits.{deletion_ok, station_relation_ok}
use Rattle.network.specs.Networks.{stations_of, listed, track_known, runs}
use Rattle.timetable.specs.Tables.{insert, lose_all}
use Rattle.timetable.specs.Visits.{from, onward}
use Rattle.timetable.specs.FileForms.{status_number}
use Rattle.timetable.specs.EditsFile.{station_relation_numbers}
use Rattle.timetable.specs.TimetableFile.{in_link_numbers, out_link_numbers}
use Rattle.theory.specs.Types.{Station, Train, Track, Line, Minute, Inward, Outward, InLink, OutLink, Relation, Network, Answer}
use Rattle.theory.specs.Types.{Deletion, StationRelation, Cancellation}

-- visits and edits

-- "It has a track; arrival and departure, each a time and a status, pending (0) or occurred (1)."
pub record Visit : Type 0 where
  pub track : Track
  pub arrival : Minute
  pub arrived : Bool
  pub departure : Minute
  pub departed : Bool
  pub inward : InLink
  pub outward : OutLink

-- "(s, t, track, arrival, departure)"
pub record Plan : Type 0 where
  pub station : Station
  pub train : Train
  pub track : Track
  pub arrival : Minute
  pub departure : Minute

-- "(as 1, then p, line, running time)"
pub record Extension : Type 0 where
  pub plan : Plan
  pub other : Station
  pub line : Line
  pub run : ℕ

-- "(s, t, time)"
pub record Report : Type 0 where
  pub station : Station
  pub train : Train
  pub time : Minute

pub data Edit : Type 0 where
  place : Plan → Edit
  prepend : Extension → Edit
  append : Extension → Edit
  delete_first : Deletion → Edit
  delete_last : Deletion → Edit
  amend : Plan → Edit
  report_arrival : Report → Edit
  report_departure : Report → Edit
  add_relation : StationRelation → Edit
  remove_relation : StationRelation → Edit
  delete_train : Cancellation → Edit

-- what visits are asked

unfoldable pub lacks_in : Visit → Bool
lacks_in v = elim v.inward [ InLink.Nothing ↦ true | InLink.From i ↦ false ]

unfoldable pub lacks_out : Visit → Bool
lacks_out v = elim v.outward [ OutLink.Nothing ↦ true | OutLink.To o ↦ false ]

unfoldable pub comes : (Inward → Bool) → Visit → Bool
comes f v = elim v.inward [ InLink.Nothing ↦ false | InLink.From i ↦ f i ]

unfoldable pub leaves : (Outward → Bool) → Visit → Bool
leaves f v = elim v.outward [ OutLink.Nothing ↦ false | OutLink.To o ↦ f o ]

-- "A visit stops if it departs later than it arrives or lacks a link."
unfoldable pub stops : Visit → Bool
stops v = ltb v.arrival.0 v.departure.0 || (lacks_in v || lacks_out v)

-- edits 4 and 5
unfoldable pub first_stands : Station → Station → Visit → Visit → Bool
first_stands s p v w =
    lacks_in v && leaves (λ o. same_station o.station p && comes (λ i. same_station i.station s && same_line i.line o.line) w) v

unfoldable pub last_stands : Station → Station → Visit → Visit → Bool
last_stands s p v w =
    lacks_out v && comes (λ i. same_station i.station p && leaves (λ o. same_station o.station s && same_line o.line i.line) w) v

-- "11 an amendment alters an occurred time, or the track after an occurred arrival"
unfoldable pub alters : Plan → Visit → Bool
alters p v =
    (v.arrived && not (same_minute p.arrival v.arrival && same_track p.track v.track))
    || (v.departed && not (same_minute p.departure v.departure))

-- visits with another link or time

unfoldable pub with_in : InLink → Visit → Visit
with_in i v = record { track = v.track; arrival = v.arrival; arrived = v.arrived; departure = v.departure; departed = v.departed; inward = i; outward = v.outward }

unfoldable pub with_out : OutLink → Visit → Visit
with_out o v = record { track = v.track; arrival = v.arrival; arrived = v.arrived; departure = v.departure; departed = v.departed; inward = v.inward; outward = o }

unfoldable pub planned : Plan → Visit
planned p = record { track = p.track; arrival = p.arrival; arrived = false; departure = p.departure; departed = false; inward = InLink.Nothing; outward = OutLink.Nothing }

unfoldable pub amended : Plan → Visit → Visit
amended p v = record { track = p.track; arrival = p.arrival; arrived = v.arrived; departure = p.departure; departed = v.departed; inward = v.inward; outward = v.outward }

unfoldable pub arrived_at : Minute → Visit → Visit
arrived_at m v = record { track = v.track; arrival = m; arrived = true; departure = v.departure; departed = v.departed; inward = v.inward; outward = v.outward }

unfoldable pub departed_at : Minute → Visit → Visit
departed_at m v = record { track = v.track; arrival = v.arrival; arrived = v.arrived; departure = m; departed = true; inward = v.inward; outward = v.outward }

-- tables

pub record Entry : Type 0 where
  pub train : Train
  pub visit : Visit

pub record Table : Type 0 where
  pub visits : List Entry
  pub relations : List Relation

abbrev pub Timetable : Type 0
Timetable = Station → Table

unfoldable pub empty : Table
empty = record { visits = []; relations = [] }

unfoldable pub visit_of : Train → Table → Option Visit
visit_of t tab = option_map (λ e. e.visit) (first (λ e. same_train e.train t) tab.visits)

unfoldable pub has_visit : Train → Table → Bool
has_visit t tab = is (λ v. true) (visit_of t tab)

unfoldable pub enter : Entry → List Entry → List Entry
enter e [] = e ∷ []
enter e (x ∷ xs) = if ltb e.train.0 x.train.0 then e ∷ x ∷ xs else (x ∷ enter e xs)

unfoldable pub add_visit : Train → Visit → Table → Table
add_visit t v tab = record { visits = enter (record { train = t; visit = v }) tab.visits; relations = tab.relations }

unfoldable pub change_entry : Train → (Visit → Visit) → Entry → Entry
change_entry t f e = if same_train e.train t then record { train = e.train; visit = f e.visit } else e

unfoldable pub change_visit : Train → (Visit → Visit) → Table → Table
change_visit t f tab = record { visits = map (change_entry t f) tab.visits; relations = tab.relations }

unfoldable pub has_relation : Relation → Table → Bool
has_relation r tab = any (same_relation r) tab.relations

unfoldable pub with_relation : Relation → Table → Table
with_relation r tab = record { visits = tab.visits; relations = insert r tab.relations }

unfoldable pub drop_relation : Relation → Table → Table
drop_relation r tab = record { visits = tab.visits; relations = keep (λ q. not (same_relation r q)) tab.relations }

unfoldable pub without : Train → Table → Table
without t tab = record { visits = keep (λ e. not (same_train e.train t)) tab.visits; relations = lose_all t tab.relations }

-- the machine

pub record Action : Type 0 where
  pub home : Station
  pub away : Station
  pub fits : Network → Bool
  pub refuses : Table → Table → ℕ
  pub here : Table → Table
  pub there : Table → Table
  pub removes : ℕ

pub data Meaning : Type 0 where
  local : Action → Meaning
  throughout : Train → Meaning

-- "Limits are per station: 24 visits, 6 relations."
unfoldable pub room : Table → ℕ
room tab = 12 if leb 24 (length tab.visits) else 0

unfoldable pub as_it_was : Table → Table
as_it_was tab = tab

unfoldable pub meaning : Edit → Meaning
meaning (place p) = local (record {
  home = p.station;
  away = p.station;
  fits = λ n. track_known n p.station p.track;
  refuses = λ here there. 8 if has_visit p.train here else room here;
  here = add_visit p.train (planned p);
  there = as_it_was;
  removes = 0;
})
meaning (prepend x) = local (record {
  home = x.plan.station;
  away = x.other;
  fits = λ n. track_known n x.plan.station x.plan.track && runs n x.line x.plan.station x.other;
  refuses = λ here there.
      8 if has_visit x.plan.train here
      else 9 if not (has_visit x.plan.train there)
      else 10 if not (is lacks_in (visit_of x.plan.train there))
      else room here;
  here = add_visit x.plan.train (with_out (onward x.other x.line x.run) (planned x.plan));
  there = change_visit x.plan.train (with_in (from x.plan.station x.line));
  removes = 0;
})
meaning (append x) = local (record {
  home = x.plan.station;
  away = x.other;
  fits = λ n. track_known n x.plan.station x.plan.track && runs n x.line x.other x.plan.station;
  refuses = λ here there.
      8 if has_visit x.plan.train here
      else 9 if not (has_visit x.plan.train there)
      else 10 if not (is lacks_out (visit_of x.plan.train there))
      else room here;
  here = add_visit x.plan.train (with_in (from x.other x.line) (planned x.plan));
  there = change_visit x.plan.train (with_out (onward x.plan.station x.line x.run));
  removes = 0;
})
meaning (delete_first d) = local (record {
  home = d.station;
  away = d.other;
  fits = λ n. true;
  refuses = λ here there.
      9 if not (has_visit d.train here && has_visit d.train there)
      else 10 if not (is (λ v. is (first_stands d.station d.other v) (visit_of d.train there)) (visit_of d.train here))
      else 0;
  here = without d.train;
  there = change_visit d.train (with_in InLink.Nothing);
  removes = 1;
})
meaning (delete_last d) = local (record {
  home = d.station;
  away = d.other;
  fits = λ n. true;
  refuses = λ here there.
      9 if not (has_visit d.train here && has_visit d.train there)
      else 10 if not (is (λ v. is (last_stands d.station d.other v) (visit_of d.train there)) (visit_of d.train here))
      else 0;
  here = without d.train;
  there = change_visit d.train (with_out OutLink.Nothing);
  removes = 1;
})
meaning (amend p) = local (record {
  home = p.station;
  away = p.station;
  fits = λ n. track_known n p.station p.track;
  refuses = λ here there.
      9 if not (has_visit p.train here)
      else 11 if is (alters p) (visit_of p.train here)
      else 0;
  here = change_visit p.train (amended p);
  there = as_it_was;
  removes = 0;
})
meaning (report_arrival r) = local (record {
  home = r.station;
  away = r.station;
  fits = λ n. true;
  refuses = λ here there. 9 if not (has_visit r.train here) else 0;
  here = change_visit r.train (arrived_at r.time);
  there = as_it_was;
  removes = 0;
})
meaning (report_departure r) = local (record {
  home = r.station;
  away = r.station;
  fits = λ n. true;
  refuses = λ here there. 9 if not (has_visit r.train here) else 0;
  here = change_visit r.train (departed_at r.time);
  there = as_it_was;
  removes = 0;
})
meaning (add_relation r) = local (record {
  home = r.station;
  away = r.station;
  fits = λ n. true;
  refuses = λ here there. 8 if has_relation r.relation here else 12 if leb 6 (length here.relations) else 0;
  here = with_relation r.relation;
  there = as_it_was;
  removes = 0;
})
meaning (remove_relation r) = local (record {
  home = r.station;
  away = r.station;
  fits = λ n. true;
  refuses = λ here there. 9 if not (has_relation r.relation here) else 0;
  here = drop_relation r.relation;
  there = as_it_was;
  removes = 0;
})
meaning (delete_train c) = throughout c.train

-- "3 a value or order is outside the ranges (edits too)"
unfoldable pub plan_ok : Plan → Bool
plan_ok p = (station_ok p.station && train_ok p.train) && (track_ok p.track && (minute_ok p.arrival && minute_ok p.departure))

unfoldable pub extension_ok : Extension → Bool
extension_ok x = plan_ok x.plan && (station_ok x.other && (line_ok x.line && run_ok x.run))

unfoldable pub report_ok : Report → Bool
report_ok r = station_ok r.station && (train_ok r.train && minute_ok r.time)

unfoldable pub edit_ok : Edit → Bool
edit_ok (place p) = plan_ok p
edit_ok (prepend x) = extension_ok x
edit_ok (append x) = extension_ok x
edit_ok (delete_first d) = deletion_ok d
edit_ok (delete_last d) = deletion_ok d
edit_ok (amend p) = plan_ok p
edit_ok (report_arrival r) = report_ok r
edit_ok (report_departure r) = report_ok r
edit_ok (add_relation r) = station_relation_ok r
edit_ok (remove_relation r) = station_relation_ok r
edit_ok (delete_train c) = train_ok c.train

-- the step

unfoldable pub put : Station → Table → Timetable → Timetable
put s tab m = λ k. if same_station k s then tab else m k

unfoldable pub refused_as : Network → Meaning → Timetable → ℕ
refused_as n (local a) m = 7 if not ((listed n a.home && listed n a.away) && a.fits n) else a.refuses (m a.home) (m a.away)
refused_as n (throughout t) m = 0

unfoldable pub refusal : Network → Edit → Timetable → ℕ
refusal n e m = 3 if not (edit_ok e) else refused_as n (meaning e) m

unfoldable pub changed : Network → Meaning → Timetable → Timetable
changed n (local a) m = put a.home (a.here (m a.home)) (put a.away (a.there (m a.away)) m)
changed n (throughout t) m = λ k. if listed n k then without t (m k) else m k

unfoldable pub removed_by : Network → Meaning → Timetable → ℕ
removed_by n (local a) m = a.removes
removed_by n (throughout t) m = count (λ s. has_visit t (m s)) (stations_of n)

unfoldable pub answer : Network → Edit → Timetable → Answer
answer n e m = record { refusal = refusal n e m; removed = if eqb (refusal n e m) 0 then removed_by n (meaning e) m else 0 }

unfoldable pub after : Network → Edit → Timetable → Timetable
after n e m = if eqb (refusal n e m) 0 then changed n (meaning e) m else m

-- the timetable file: "each s, t, track, arrival, status, departure, status, in-link, out-link"

unfoldable pub visit_numbers : Station → Entry → List ℕ
visit_numbers s e =
    s.0 ∷ e.train.0 ∷ e.visit.track.0
    ∷ e.visit.arrival.0 ∷ status_number e.visit.arrived
    ∷ e.visit.departure.0 ∷ status_number e.visit.departed
    ∷ (in_link_numbers e.visit.inward ++ out_link_numbers e.visit.outward)

unfoldable pub timetable_numbers : Network → Timetable → List ℕ
timetable_numbers n m =
    let vs : List (List ℕ) = flat_map (λ s. map (visit_numbers s) (m s).visits) (stations_of n) in
    let rs : List StationRelation = flat_map (λ s. map (λ r. record { station = s; relation = r }) (m s).relations) (stations_of n) in
    length vs ∷ (flat_map (λ ns. ns) vs ++ (length rs ∷ flat_map station_relation_numbers rs))

-- The key ring of this module: `unfolding opened` opens every definition above.
unfoldable pub opened : Unit {0}
unfolding lacks_in lacks_out comes leaves stops first_stands last_stands alters with_in with_out planned amended arrived_at departed_at empty visit_of has_visit enter add_visit
    change_entry change_visit has_relation with_relation drop_relation without room as_it_was meaning plan_ok extension_ok report_ok edit_ok put refused_as refusal changed removed_by
    answer after visit_numbers timetable_numbers
opened = tt
