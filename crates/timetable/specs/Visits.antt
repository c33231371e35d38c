-- A visit's links and times, whether it stops, and a visit with another link or time. Document 01, "The railway and its
-- numbers" and "The central machine"; document 02, W6. Assumes nothing.
use Rattle.std.specs.Prelude.{ℕ, Bool, true, false, not, ◌&&◌, ◌||◌, List, [], ◌∷◌, ltb}
use Rattle.railway.specs.Ranges.{same_station, same_line, same_track, same_minute}
use Rattle.timetable.specs.Types.{Station, Line, Minute, Inward, Outward, InLink, OutLink, Visit, Plan}

abbrev pub arr : Visit → ℕ
arr v = v.arrival.0

abbrev pub dep : Visit → ℕ
dep v = v.departure.0

-- links

unfoldable pub lacks_in : Visit → Bool
lacks_in v = elim v.inward [ InLink.Nothing ↦ true | InLink.From i ↦ false ]

unfoldable pub lacks_out : Visit → Bool
lacks_out v = elim v.outward [ OutLink.Nothing ↦ true | OutLink.To o ↦ false ]

-- the test holds of the link; false where there is none
unfoldable pub comes : (Inward → Bool) → Visit → Bool
comes f v = elim v.inward [ InLink.Nothing ↦ false | InLink.From i ↦ f i ]

unfoldable pub leaves : (Outward → Bool) → Visit → Bool
leaves f v = elim v.outward [ OutLink.Nothing ↦ false | OutLink.To o ↦ f o ]

unfoldable pub comes_from : Station → Line → Visit → Bool
comes_from s l = comes (λ i. same_station i.station s && same_line i.line l)

unfoldable pub leaves_to : Station → Line → Visit → Bool
leaves_to s l = leaves (λ o. same_station o.station s && same_line o.line l)

-- the link as a list of one or none
unfoldable pub ins : Visit → List Inward
ins v = elim v.inward [ InLink.Nothing ↦ [] | InLink.From i ↦ i ∷ [] ]

unfoldable pub outs : Visit → List Outward
outs v = elim v.outward [ OutLink.Nothing ↦ [] | OutLink.To o ↦ o ∷ [] ]

-- "A visit stops if it departs later than it arrives or lacks a link."
unfoldable pub stops_anyway : Visit → Bool
stops_anyway v = ltb (arr v) (dep v) || (lacks_in v || lacks_out v)

-- document 02, W6: "A marked visit stops even if the old condition doesn't hold."
unfoldable pub stops : Visit → Bool
stops v = stops_anyway v || v.marked

-- visits with another link or time

unfoldable pub with_in : InLink → Visit → Visit
with_in i v = record {
  track = v.track;
  marked = v.marked;
  arrival = v.arrival;
  arrived = v.arrived;
  departure = v.departure;
  departed = v.departed;
  inward = i;
  outward = v.outward;
}

unfoldable pub with_out : OutLink → Visit → Visit
with_out o v = record {
  track = v.track;
  marked = v.marked;
  arrival = v.arrival;
  arrived = v.arrived;
  departure = v.departure;
  departed = v.departed;
  inward = v.inward;
  outward = o;
}

-- edit 1: "a visit, both times pending, no links"
unfoldable pub planned : Plan → Visit
planned p = record {
  track = p.track;
  marked = p.marked;
  arrival = p.arrival;
  arrived = false;
  departure = p.departure;
  departed = false;
  inward = InLink.Nothing;
  outward = OutLink.Nothing;
}

-- edit 6: "new track and times, statuses and links kept"; of the mark "amending sets it anew"
unfoldable pub amended : Plan → Visit → Visit
amended p v = record {
  track = p.track;
  marked = p.marked;
  arrival = p.arrival;
  arrived = v.arrived;
  departure = p.departure;
  departed = v.departed;
  inward = v.inward;
  outward = v.outward;
}

-- edits 7 and 8: "sets time and occurred anew"
unfoldable pub arrived_at : Minute → Visit → Visit
arrived_at m v = record {
  track = v.track;
  marked = v.marked;
  arrival = m;
  arrived = true;
  departure = v.departure;
  departed = v.departed;
  inward = v.inward;
  outward = v.outward;
}

unfoldable pub departed_at : Minute → Visit → Visit
departed_at m v = record {
  track = v.track;
  marked = v.marked;
  arrival = v.arrival;
  arrived = v.arrived;
  departure = m;
  departed = true;
  inward = v.inward;
  outward = v.outward;
}

unfoldable pub from : Station → Line → InLink
from s l = InLink.From (record { station = s; line = l })

unfoldable pub onward : Station → Line → ℕ → OutLink
onward s l r = OutLink.To (record { station = s; line = l; run = r })

-- what the edits ask of visits

-- edit 4: "(s, t) has no in-link and its out-link goes to p; (p, t) has s and that line as in-link"
unfoldable pub first_stands : Station → Station → Visit → Visit → Bool
first_stands s p v w = lacks_in v && leaves (λ o. same_station o.station p && comes_from s o.line w) v

-- edit 5, "the mirror of 4": (s, t) has no out-link and its in-link comes from p; (p, t) has s and that line as
-- out-link
unfoldable pub last_stands : Station → Station → Visit → Visit → Bool
last_stands s p v w = lacks_out v && comes (λ i. same_station i.station p && leaves_to s i.line w) v

-- "11 an amendment alters an occurred time, or the track after an occurred arrival"
unfoldable pub alters : Plan → Visit → Bool
alters p v =
    (v.arrived && not (same_minute p.arrival v.arrival && same_track p.track v.track))
    || (v.departed && not (same_minute p.departure v.departure))

-- The key ring of this module: `unfolding opened` opens every definition above.
unfoldable pub opened : Unit {0}
unfolding lacks_in lacks_out comes leaves comes_from leaves_to ins outs stops_anyway stops with_in with_out planned amended arrived_at departed_at from onward
    first_stands last_stands alters
opened = tt
