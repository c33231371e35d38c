-- The rules of document 01, "Findings", and of document 02, W1 to W3, one by one, as tests of visits and tables. t and u
-- are the trains, v and w their visits; `here` is the table of s, `there` that of the far station. Assumes nothing.
use Rattle.std.specs.Prelude.{ℕ, ◌+◌, min, max, Bool, true, not, ◌&&◌, ◌||◌, List, map, ltb, leb, eqb, length}
use Rattle.std.specs.Prelude.{None, Some}
use Rattle.std.specs.Prelude.{if◌then◌else◌}
use Rattle.base.specs.Lists.{any, every, keep, is, each_two}
use Rattle.railway.specs.Ranges.{same_station, same_train, same_track, same_line}
use Rattle.railway.specs.Relations.{used}
use Rattle.network.specs.Networks.{line_row, least_time, closure_rows}
use Rattle.timetable.specs.Types.{Station, Train, Inward, Outward, OutLink, Visit, Relation, Connection, Disconnection, Dependency, LineRow, Closure, Network}
use Rattle.timetable.specs.Visits.{arr, dep, stops, leaves, comes_from, leaves_to}
use Rattle.timetable.specs.Tables.{Entry, Table, visit_of}

-- 1. "Departure before arrival, or occurred with arrival pending."
unfoldable pub breaks_1 : Visit → Bool
breaks_1 v = ltb (dep v) (arr v) || (v.departed && not v.arrived)

-- 2. "u's arrival is pending and earlier than t's departure + 1"
unfoldable pub comes_too_soon : Visit → Visit → Bool
comes_too_soon v w = not w.arrived && ltb (arr w) (dep v + 1)

-- "both: ..; the same with t and u exchanged."
unfoldable pub both_too_soon : Visit → Visit → Bool
both_too_soon v w = comes_too_soon v w && comes_too_soon w v

-- W2, "a standing train holds its track": "t .. has arrived, its departure is pending, and u's arrival is pending and
-- earlier than t's departure + 1"
unfoldable pub stands_for : Visit → Visit → Bool
stands_for v w = (v.arrived && not v.departed) && comes_too_soon v w

-- "t < u, same track"; W2: "t, either of them"; "The other cases of rule 2 remain."
unfoldable pub breaks_2 : Visit → Visit → Bool
breaks_2 v w = same_track v.track w.track && (both_too_soon v w || (stands_for v w || stands_for w v))

-- 3. "t < u leave on one line"
unfoldable pub on_one_line : Visit → Visit → Bool
on_one_line v w = leaves (λ o. leaves (λ q. same_line o.line q.line) w) v

-- "either pending, departures closer than the headway"
unfoldable pub breaks_3 : ℕ → Visit → Visit → Bool
breaks_3 headway v w =
    on_one_line v w && (not (v.departed && w.departed) && ltb (max (dep v) (dep w)) (min (dep v) (dep w) + headway))

-- 4. "for each two of which either departure is pending, earlier departure less later arrival is at least the interval"
unfoldable pub connected : ℕ → Visit → Visit → Bool
connected i v w = (v.departed && w.departed) || leb (max (arr v) (arr w) + i) (min (dep v) (dep w))

-- "of each two that stop, one arrives the interval or more after the other departs, or both arrivals have occurred"
unfoldable pub disconnected : ℕ → Visit → Visit → Bool
disconnected i v w =
    not (stops v && stops w)
    || ((leb (dep v + i) (arr w) || leb (dep w + i) (arr v)) || (v.arrived && w.arrived))

-- "both visit and stop; if the departer's departure is pending, it is the interval or more after the arriver's arrival"
unfoldable pub depends : ℕ → Visit → Visit → Bool
depends i v w = (stops v && stops w) && (w.departed || leb (arr v + i) (dep w))

-- both visit, and the test holds of the visits
unfoldable pub both_visit : (Visit → Visit → Bool) → Table → Train → Train → Bool
both_visit f tab t u = is (λ v. is (f v) (visit_of u tab)) (visit_of t tab)

-- "Unmet" is its contrary. "Connection: all visit and stop, and for each two .."; "Disconnection: all visit; of each
-- two .."
unfoldable pub met : Table → Relation → Bool
met tab (Connection i ts) = every (λ t. is stops (visit_of t tab)) (used ts) && each_two (both_visit (connected i) tab) (used ts)
met tab (Disconnection i ts) = every (λ t. is (λ v. true) (visit_of t tab)) (used ts) && each_two (both_visit (disconnected i) tab) (used ts)
met tab (Dependency i p) = both_visit (depends i) tab p.arriver p.departer

-- 5. "Run below the line's least."; W3: "The least time is then that of a line and a train, and rule 5 follows it."
unfoldable pub breaks_5 : Network → Train → Visit → Bool
breaks_5 n t = leaves (λ o. is (λ r. ltb o.run (least_time r t)) (line_row n o.line))

-- departure + run
unfoldable pub due : Visit → Outward → ℕ
due v o = dep v + o.run

-- 6. t leaves by o: "trains u have out-links on its line, an earlier departure and departure + run later than t's
-- departure"
unfoldable pub ahead : Visit → Outward → Visit → Bool
ahead v o w = leaves (λ q. same_line q.line o.line && (ltb (dep w) (dep v) && ltb (dep v) (due w q))) w

-- "one's departure + run isn't below t's"
unfoldable pub caught : Visit → Outward → Visit → Bool
caught v o w = leaves (λ q. leb (due v o) (due w q)) w

-- "There are some, and they number the capacity or more, or one's departure + run isn't below t's."
unfoldable pub crowded : LineRow → Visit → Outward → List Visit → Bool
crowded r v o ws = ltb 0 (length ws) && (leb r.capacity (length ws) || any (caught v o) ws)

unfoldable pub others : Train → List Entry → List Visit
others t es = map (λ e. e.visit) (keep (λ e. not (same_train e.train t)) es)

-- "t's departure is pending; trains u .."
unfoldable pub breaks_6 : Network → List Entry → Entry → Bool
breaks_6 n es e =
    not e.visit.departed
    && leaves (λ o. is (λ r. crowded r e.visit o (keep (ahead e.visit o) (others e.train es))) (line_row n o.line)) e.visit

-- 7. "Out-link whose far visit is missing or lacks this station and line as in-link (else the link is answered)."
unfoldable pub out_answered : Station → Train → Outward → Table → Bool
out_answered s t o there = is (comes_from s o.line) (visit_of t there)

-- 8. "The mirror for in-links."
unfoldable pub in_answered : Station → Train → Inward → Table → Bool
in_answered s t i there = is (leaves_to s i.line) (visit_of t there)

-- 9. "the far arrival is pending and isn't departure + run"
unfoldable pub misses : Visit → Outward → Visit → Bool
misses v o w = not w.arrived && not (eqb (arr w) (due v o))

-- "The out-link is answered, the far arrival .."
unfoldable pub breaks_9 : Station → Entry → Outward → Table → Bool
breaks_9 s e o there = out_answered s e.train o there && is (misses e.visit o) (visit_of e.train there)

-- 10. "u's arrival is that at s if its link is answered, else departure + run": u leaves p towards s by q
unfoldable pub arrival_of : Table → Station → Entry → Outward → ℕ
arrival_of here p u q =
    elim (visit_of u.train here) [
      | None ↦ due u.visit q
      | Some w ↦ if comes_from p q.line w then arr w else due u.visit q
    ]

-- "u leaves the far station on it towards s, and neither arrives before t departs nor departs after t's departure +
-- run": t leaves s by o
unfoldable pub opposes : Table → Station → Entry → Outward → Entry → Bool
opposes here s t o u =
    not (same_train t.train u.train)
    && leaves (λ q. (same_line q.line o.line && same_station q.station s)
    && (not (ltb (arrival_of here o.station u q) (dep t.visit)) && not (ltb (due t.visit o) (dep u.visit)))) u.visit

-- "Line of kind 3, t's departure pending"
unfoldable pub single : Network → Entry → Outward → Bool
single n t o = not t.visit.departed && is (λ r. eqb r.kind 3) (line_row n o.line)

unfoldable pub breaks_10 : Network → Station → Table → Entry → Outward → Entry → Bool
breaks_10 n s here t o u = single n t o && opposes here s t o u

-- 11. W1: "A pending departure whose occupation, from departure up to but not including departure + run, shares a
-- minute with a closure of its line"
unfoldable pub shuts : Visit → Outward → Closure → Bool
shuts v o c = same_line c.line o.line && (ltb (dep v) c.end.0 && ltb c.start.0 (due v o))

unfoldable pub breaks_11 : Network → Visit → Bool
breaks_11 n v = not v.departed && leaves (λ o. any (shuts v o) (closure_rows n)) v

-- "first the train, second the line"
unfoldable pub out_line : OutLink → ℕ
out_line OutLink.Nothing = 0
out_line (OutLink.To o) = o.line.0

-- The key ring of this module: `unfolding opened` opens every definition above.
unfoldable pub opened : Unit {0}
unfolding breaks_1 comes_too_soon both_too_soon stands_for breaks_2 on_one_line breaks_3 connected disconnected depends both_visit met breaks_5 due ahead caught crowded others
    breaks_6 out_answered in_answered misses breaks_9 arrival_of opposes single breaks_10 shuts breaks_11 out_line
opened = tt
