-- Good tables and whole timetables: document 01, "Sheets and division", apart from the layout of bytes. Assumes
-- nothing.
use Rattle.std.specs.Prelude.{ℕ, Bool, not, ◌&&◌, List, map, ◌≡◌, T, leb, length}
use Rattle.base.specs.Lists.{every, each_two, rising}
use Rattle.railway.specs.Ranges.{station_ok, train_ok, track_ok, line_ok, minute_ok, run_ok}
use Rattle.railway.specs.Relations.{relation_ok, precedes}
use Rattle.network.specs.Networks.{listed, track_known, runs}
use Rattle.timetable.specs.Types.{Station, Inward, Outward, Visit, Relation, Network}
use Rattle.timetable.specs.Visits.{ins, outs}
use Rattle.timetable.specs.Tables.{Entry, Table, empty}
use Rattle.timetable.specs.Machine.{Timetable}
use Rattle.timetable.specs.Groups.{Grouping, Divided, in_group}

-- "it has only values that an edit could carry under the network without 3 or 7, with any statuses"

unfoldable pub in_good : Network → Station → Inward → Bool
in_good n s i =
    (station_ok i.station && line_ok i.line)
    && (listed n i.station && runs n i.line i.station s)

unfoldable pub out_good : Network → Station → Outward → Bool
out_good n s o =
    (station_ok o.station && (line_ok o.line && run_ok o.run))
    && (listed n o.station && runs n o.line s o.station)

unfoldable pub links_good : Network → Station → Visit → Bool
links_good n s v = every (in_good n s) (ins v) && every (out_good n s) (outs v)

unfoldable pub values_good : Network → Station → Visit → Bool
values_good n s v =
    (track_ok v.track && track_known n s v.track)
    && (minute_ok v.arrival && minute_ok v.departure)

unfoldable pub visit_good : Network → Station → Visit → Bool
visit_good n s v = values_good n s v && links_good n s v

unfoldable pub entry_good : Network → Station → Entry → Bool
entry_good n s e = train_ok e.train && visit_good n s e.visit

-- "within the limits, in the layout's order, with no visit or relation twice"

unfoldable pub visits_good : Network → Station → List Entry → Bool
visits_good n s es = (leb (length es) 24 && rising (map (λ e. e.train.0) es)) && every (entry_good n s) es

unfoldable pub relations_good : List Relation → Bool
relations_good rs = (leb (length rs) 6 && each_two precedes rs) && every relation_ok rs

unfoldable pub table_good : Network → Station → Table → Bool
table_good n s tab = visits_good n s tab.visits && relations_good tab.relations

-- a good timetable over the stations that pass the test: their tables are good, every other station is bare
pub record Good (n : Network) (p : Station → Bool) (m : Timetable) : Type 0 where
  pub good : (k : Station) → T (p k) → T (table_good n k (m k))
  pub bare : (k : Station) → T (not (p k)) → m k ≡ empty

-- "A whole timetable is a good sheet over all stations."
abbrev pub Whole : Network → Timetable → Type 0
Whole n m = Good n (listed n) m

-- "in a division only stations of its own area"
abbrev pub GoodDivision : Network → Grouping → Divided → Type 0
GoodDivision n γ d = (g : ℕ) → Good n (λ k. listed n k && in_group γ g k) (d g)

-- The key ring of this module: `unfolding opened` opens every definition above.
unfoldable pub opened : Unit {0}
unfolding in_good out_good links_good values_good visit_good entry_good visits_good relations_good table_good
opened = tt
