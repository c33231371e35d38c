-- The central machine: what each edit is refused with, what it changes, and what it answers. Document 01, "The central
-- machine" and "Who brings on which number". An edit sees the tables of its two stations alone, `here` (of s) and
-- `there` (of p); edit 11 sees all. So what is local is local by construction. Assumes nothing.
use Rattle.std.specs.Prelude.{ℕ, Bool, true, not, ◌&&◌, eqb}
use Rattle.base.specs.Choice.{◌if◌else◌}
use Rattle.std.specs.Prelude.{if◌then◌else◌}
use Rattle.base.specs.Lists.{is, count}
use Rattle.railway.specs.Ranges.{same_station}
use Rattle.railway.specs.Edits.{edit_ok}
use Rattle.network.specs.Networks.{stations_of, listed, track_known, runs}
use Rattle.timetable.specs.Types.{Station, Train, InLink, OutLink, Network, Answer}
use Rattle.timetable.specs.Types.{Edit, Place, Prepend, Append, DeleteFirst, DeleteLast, Amend}
use Rattle.timetable.specs.Types.{ReportArrival, ReportDeparture, AddRelation, RemoveRelation, DeleteTrain}
use Rattle.timetable.specs.Reports.{future}
use Rattle.timetable.specs.Visits.{lacks_in, lacks_out, with_in, with_out, planned, amended, arrived_at, departed_at, from, onward, first_stands, last_stands, alters}
use Rattle.timetable.specs.Tables.{Table, empty, visit_of, has_visit, add_visit, change_visit, has_relation, add_relation, drop_relation, without, full_visits, full_relations}

-- "State: a map from (station, train) to visits, a set of relations per station."
abbrev pub Timetable : Type 0
Timetable = Station → Table

unfoldable pub nothing_placed : Timetable
nothing_placed = λ s. empty

-- a new table for one station
unfoldable pub put : Station → Table → Timetable → Timetable
put s tab m = λ k. if same_station k s then tab else m k

-- what each edit means

-- An edit at one or two stations. `here` is the table of s, `there` that of p.
pub record Action : Type 0 where
  -- s, and p or else s again
  pub home : Station
  pub away : Station
  -- the track and the line are known, and the line runs that way; else 7
  pub fits : Network → Bool
  -- 8 to 12, in document 01's order, by the tables of s and p; or 0
  pub refuses : Network → Table → Table → ℕ
  -- the tables of s and of p afterwards
  pub here : Table → Table
  pub there : Table → Table
  -- visits added and removed
  pub adds : ℕ
  pub removes : ℕ

pub data Meaning : Type 0 where
  local : Action → Meaning
  -- edit 11: the train is taken out of every table
  throughout : Train → Meaning

-- "12 a station limit is reached": of one visit more at s
unfoldable pub room : Network → Station → Table → ℕ
room n s tab = 12 if full_visits tab else 0

unfoldable pub as_it_was : Table → Table
as_it_was tab = tab

unfoldable pub meaning : Edit → Meaning
-- 1. "Place (s, t, track, arrival, departure): a visit, both times pending, no links."
meaning (Place p) = local (record {
  home = p.station;
  away = p.station;
  fits = λ n. track_known n p.station p.track;
  refuses = λ n here there. 8 if has_visit p.train here else room n p.station here;
  here = add_visit p.train (planned p);
  there = as_it_was;
  adds = 1;
  removes = 0;
})
-- 2. "Prepend (as 1, then p, line, running time): adds (s, t) with out-link to p; the in-link of (p, t), none before,
-- becomes s and that line."
meaning (Prepend x) = local (record {
  home = x.plan.station;
  away = x.other;
  fits = λ n. track_known n x.plan.station x.plan.track && runs n x.line x.plan.station x.other;
  refuses = λ n here there.
      8 if has_visit x.plan.train here
      else 9 if not (has_visit x.plan.train there)
      else 10 if not (is lacks_in (visit_of x.plan.train there))
      else room n x.plan.station here;
  here = add_visit x.plan.train (with_out (onward x.other x.line x.run) (planned x.plan));
  there = change_visit x.plan.train (with_in (from x.plan.station x.line));
  adds = 1;
  removes = 0;
})
-- 3. "Append (same fields): adds (s, t) with in-link p; the out-link of (p, t), none before, becomes s, line and
-- running time."
meaning (Append x) = local (record {
  home = x.plan.station;
  away = x.other;
  fits = λ n. track_known n x.plan.station x.plan.track && runs n x.line x.other x.plan.station;
  refuses = λ n here there.
      8 if has_visit x.plan.train here
      else 9 if not (has_visit x.plan.train there)
      else 10 if not (is lacks_out (visit_of x.plan.train there))
      else room n x.plan.station here;
  here = add_visit x.plan.train (with_in (from x.other x.line) (planned x.plan));
  there = change_visit x.plan.train (with_out (onward x.plan.station x.line x.run));
  adds = 1;
  removes = 0;
})
-- 4. "Delete first (s, t, p): .. Removes (s, t), clears that in-link, takes t from the relations at s."
meaning (DeleteFirst d) = local (record {
  home = d.station;
  away = d.other;
  fits = λ n. true;
  refuses = λ n here there.
      9 if not (has_visit d.train here && has_visit d.train there)
      else 10 if not (is (λ v. is (first_stands d.station d.other v) (visit_of d.train there)) (visit_of d.train here))
      else 0;
  here = without d.train;
  there = change_visit d.train (with_in InLink.Nothing);
  adds = 0;
  removes = 1;
})
-- 5. "Delete last: the mirror of 4."
meaning (DeleteLast d) = local (record {
  home = d.station;
  away = d.other;
  fits = λ n. true;
  refuses = λ n here there.
      9 if not (has_visit d.train here && has_visit d.train there)
      else 10 if not (is (λ v. is (last_stands d.station d.other v) (visit_of d.train there)) (visit_of d.train here))
      else 0;
  here = without d.train;
  there = change_visit d.train (with_out OutLink.Nothing);
  adds = 0;
  removes = 1;
})
-- 6. "Amend (fields of 1): new track and times, statuses and links kept."
meaning (Amend p) = local (record {
  home = p.station;
  away = p.station;
  fits = λ n. track_known n p.station p.track;
  refuses = λ n here there.
      9 if not (has_visit p.train here)
      else 11 if is (alters p) (visit_of p.train here)
      else 0;
  here = change_visit p.train (amended p);
  there = as_it_was;
  adds = 0;
  removes = 0;
})
-- 7. "Report arrival (s, t, time)": "sets time and occurred anew". The minute that it carries is not kept.
meaning (ReportArrival r) = local (record {
  home = r.station;
  away = r.station;
  fits = λ n. true;
  refuses = λ n here there. 9 if not (has_visit r.train here) else 0;
  here = change_visit r.train (arrived_at r.time);
  there = as_it_was;
  adds = 0;
  removes = 0;
})
-- 8. "report departure"
meaning (ReportDeparture r) = local (record {
  home = r.station;
  away = r.station;
  fits = λ n. true;
  refuses = λ n here there. 9 if not (has_visit r.train here) else 0;
  here = change_visit r.train (departed_at r.time);
  there = as_it_was;
  adds = 0;
  removes = 0;
})
-- 9. "Add relation" "(s, relation)"
meaning (AddRelation r) = local (record {
  home = r.station;
  away = r.station;
  fits = λ n. true;
  refuses = λ n here there. 8 if has_relation r.relation here else 12 if full_relations here else 0;
  here = add_relation r.relation;
  there = as_it_was;
  adds = 0;
  removes = 0;
})
-- 10. "remove relation (s, relation)"
meaning (RemoveRelation r) = local (record {
  home = r.station;
  away = r.station;
  fits = λ n. true;
  refuses = λ n here there. 9 if not (has_relation r.relation here) else 0;
  here = drop_relation r.relation;
  there = as_it_was;
  adds = 0;
  removes = 0;
})
-- 11. "Delete train (t): removes its visits, if any, and takes t from all relations; never 9."
meaning (DeleteTrain c) = throughout c.train

-- the step

-- else 7: "station, track or line unknown, or the line doesn't run that way"
unfoldable pub known : Network → Action → Bool
known n a = (listed n a.home && listed n a.away) && a.fits n

unfoldable pub refused_as : Network → Meaning → Timetable → ℕ
refused_as n (local a) m = 7 if not (known n a) else a.refuses n (m a.home) (m a.away)
refused_as n (throughout t) m = 0

-- what an edit is refused with by its own values, whatever the network: 3, or 15 "tested straight after 3", or 0
unfoldable pub edit_refusal : Edit → ℕ
edit_refusal e = 3 if not (edit_ok e) else 15 if future e else 0

abbrev pub sound : Edit → Bool
sound e = eqb (edit_refusal e) 0

-- those, 7, 8 to 12 in this order, or 0
unfoldable pub refusal : Network → Edit → Timetable → ℕ
refusal n e m = if sound e then refused_as n (meaning e) m else edit_refusal e

-- the state after an edit that is not refused; s last, so that an edit with no p changes s
unfoldable pub changed : Network → Meaning → Timetable → Timetable
changed n (local a) m = put a.home (a.here (m a.home)) (put a.away (a.there (m a.away)) m)
changed n (throughout t) m = λ k. if listed n k then without t (m k) else m k

-- "the count of visits removed"
unfoldable pub removed_by : Network → Meaning → Timetable → ℕ
removed_by n (local a) m = a.removes
removed_by n (throughout t) m = count (λ s. has_visit t (m s)) (stations_of n)

unfoldable pub added_by : Meaning → ℕ
added_by (local a) = a.adds
added_by (throughout t) = 0

-- "An answer is a refusal number or 0, and the count of visits removed."
unfoldable pub answer : Network → Edit → Timetable → Answer
answer n e m = record { refusal = refusal n e m; removed = if eqb (refusal n e m) 0 then removed_by n (meaning e) m else 0 }

-- "A refused edit leaves the state as it was."
unfoldable pub after : Network → Edit → Timetable → Timetable
after n e m = if eqb (refusal n e m) 0 then changed n (meaning e) m else m

-- The key ring of this module: `unfolding opened` opens every definition above.
unfoldable pub opened : Unit {0}
unfolding nothing_placed put room as_it_was meaning known refused_as edit_refusal refusal changed removed_by added_by answer after
opened = tt
