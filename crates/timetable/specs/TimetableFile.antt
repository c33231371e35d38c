-- The timetable file. Document 01, "Files": "Timetable: count of visits (0..384), each s, t, track, arrival, status,
-- departure, status, in-link, out-link (fields as listed, or a single 0 for none), rising by s and t alone; count of
-- relations (0..96), each with its station before it, rising." Document 02, W6: a visit's stop mark "after its track
-- .. in the timetable file"; a file is read in a form that is named. Assumes nothing.
use Rattle.std.specs.Prelude.{ℕ, Bool, not, ◌&&◌, eqb, length, get_or}
use mathlib.Core.List.{List, [], ◌∷◌, ◌++◌, map, flat_map}
use Rattle.base.specs.Choice.{◌if◌else◌}
use Rattle.std.specs.Prelude.{if◌then◌else◌}
use Rattle.railway.specs.Ranges.{last_minute}
use Rattle.network.specs.Networks.{stations_of, listed, track_known, network_refusal}
use Rattle.timetable.specs.Types.{Station, Train, InLink, OutLink, Visit, StationRelation, Network, FileForm}
use Rattle.timetable.specs.Tables.{add_visit, add_relation, full_visits, full_relations}
use Rattle.timetable.specs.Machine.{Timetable, put, nothing_placed}
use Rattle.timetable.specs.Good.{links_good}
use Rattle.timetable.specs.Formats.{Format, done, field, ◌and_then◌, Outcome, accepted, refused, behind, read_file, Range, ◌to◌, row, entries, Placed, placed}
use Rattle.timetable.specs.FileForms.{newest_form, status_number, mark_range, mark_numbers, mark_said, with_mark}
use Rattle.timetable.specs.NetworkFile.{under}
use Rattle.timetable.specs.EditsFile.{station_relation_entry, station_relation_numbers}

-- visits

-- "A visit belongs to a station and a train."
pub record StationVisit : Type 0 where
  pub station : Station
  pub train : Train
  pub visit : Visit

-- "s, t, track, arrival, status, departure, status", the mark after the track
unfoldable pub visit_ranges : FileForm → List Range
visit_ranges form = 1 to 16 ∷ 1 to 9999 ∷ 1 to 8 ∷ (mark_range form ++ (0 to last_minute ∷ 0 to 1 ∷ 0 to last_minute ∷ 0 to 1 ∷ []))

-- "(fields as listed, or a single 0 for none)"
unfoldable pub in_link_entry : Format InLink
in_link_entry =
    field 0 16 (λ p.
    if eqb p 0 then done InLink.Nothing
    else field 1 32 (λ l. done (InLink.From (record { station = record { 0 = p }; line = record { 0 = l } }))))

unfoldable pub out_link_entry : Format OutLink
out_link_entry =
    field 0 16 (λ p.
    if eqb p 0 then done OutLink.Nothing
    else field 1 32 (λ l. field 1 240 (λ r. done (OutLink.To (record { station = record { 0 = p }; line = record { 0 = l }; run = r })))))

unfoldable pub in_link_numbers : InLink → List ℕ
in_link_numbers InLink.Nothing = 0 ∷ []
in_link_numbers (InLink.From i) = i.station.0 ∷ i.line.0 ∷ []

unfoldable pub out_link_numbers : OutLink → List ℕ
out_link_numbers OutLink.Nothing = 0 ∷ []
out_link_numbers (OutLink.To o) = o.station.0 ∷ o.line.0 ∷ o.run ∷ []

-- of the numbers that the newest form has
unfoldable pub station_visit_of : List ℕ → InLink → OutLink → StationVisit
station_visit_of ns i o = record {
  station = record { 0 = get_or ns 0 0 };
  train = record { 0 = get_or ns 1 0 };
  visit = record {
    track = record { 0 = get_or ns 2 0 };
    marked = eqb (get_or ns 3 0) 1;
    arrival = record { 0 = get_or ns 4 0 };
    arrived = eqb (get_or ns 5 0) 1;
    departure = record { 0 = get_or ns 6 0 };
    departed = eqb (get_or ns 7 0) 1;
    inward = i;
    outward = o;
  };
}

unfoldable pub visit_entry : FileForm → List ℕ → Format StationVisit
visit_entry form floor =
    row (visit_ranges form) floor and_then (λ ns.
    in_link_entry and_then (λ i. out_link_entry and_then (λ o. done (station_visit_of (with_mark form ns) i o))))

unfoldable pub visit_numbers : FileForm → StationVisit → List ℕ
visit_numbers form e =
    e.station.0 ∷ e.train.0 ∷ e.visit.track.0
    ∷ (mark_numbers form e.visit.marked
    ++ (e.visit.arrival.0 ∷ status_number e.visit.arrived
    ∷ e.visit.departure.0 ∷ status_number e.visit.departed
    ∷ (in_link_numbers e.visit.inward ++ out_link_numbers e.visit.outward)))

-- a form can say it
unfoldable pub visit_said : FileForm → Visit → Bool
visit_said form v = mark_said form v.marked

-- the file

-- "rising by s and t alone"
unfoldable pub visit_floor : Placed StationVisit → List ℕ
visit_floor p = p.entry.station.0 ∷ p.entry.train.0 ∷ []

-- "order: kind, interval, count of trains, trains", behind the station
unfoldable pub relation_floor : Placed StationRelation → List ℕ
relation_floor p = station_relation_numbers p.entry

-- what a timetable file lists
pub record Entries : Type 0 where
  pub visits : List (Placed StationVisit)
  pub relations : List (Placed StationRelation)

unfoldable pub visits_format : FileForm → ℕ → Format (List (Placed StationVisit))
visits_format form k = entries (λ floor. placed (visit_entry form floor)) visit_floor k []

unfoldable pub relations_format : ℕ → Format (List (Placed StationRelation))
relations_format k = entries (λ floor. placed (station_relation_entry floor)) relation_floor k []

unfoldable pub timetable_format : FileForm → Format Entries
timetable_format form =
    field 0 384 (λ k. visits_format form k and_then (λ vs.
    field 0 96 (λ m. relations_format m and_then (λ rs.
    done (record { visits = vs; relations = rs })))))

-- "A timetable file is then tested for 7 and 12, entry by entry."

-- what an entry is refused with on the timetable of those before it, and what it makes of it
module _ (n : Network) where
  -- "7 station, track or line unknown, or the line doesn't run that way"
  unfoldable pub visit_refusal : StationVisit → Timetable → ℕ
  visit_refusal e m =
      7 if not (track_known n e.station e.visit.track && links_good n e.station e.visit)
      else 12 if full_visits (m e.station)
      else 0

  unfoldable pub relation_refusal : StationRelation → Timetable → ℕ
  relation_refusal e m =
      7 if not (listed n e.station)
      else 12 if full_relations (m e.station)
      else 0

unfoldable pub enter_visit : StationVisit → Timetable → Timetable
enter_visit e m = put e.station (add_visit e.train e.visit (m e.station)) m

unfoldable pub enter_relation : StationRelation → Timetable → Timetable
enter_relation e m = put e.station (add_relation e.relation (m e.station)) m

-- entry by entry, the first refused one at its first byte: "4, 7, 12: the entry's first"
module _ {A : Type 0} (refusal : A → Timetable → ℕ) (enter : A → Timetable → Timetable) where
  unfoldable pub entered : List (Placed A) → Timetable → ℕ → Outcome Timetable
  entered [] m next = accepted m next
  entered (p ∷ ps) m next =
      if eqb (refusal p.entry m) 0 then entered ps (enter p.entry m) next
      else refused (refusal p.entry m) p.place

-- the timetable of the entries, first to last
unfoldable pub timetable_of : Network → Entries → ℕ → Outcome Timetable
timetable_of n x next =
    behind (entered (visit_refusal n) enter_visit x.visits nothing_placed next) (λ m next.
    entered (relation_refusal n) enter_relation x.relations m next)

-- under a network in memory, "(.. 5, or a network not read from a file: 0)", and by a form that is named
unfoldable pub read_timetable_as : FileForm → Network → List ℕ → Outcome Timetable
read_timetable_as form n file = under (network_refusal n) (read_file (timetable_format form) file) (timetable_of n)

abbrev pub read_timetable : Network → List ℕ → Outcome Timetable
read_timetable n file = read_timetable_as newest_form n file

-- writing

unfoldable pub visits_at : Timetable → Station → List StationVisit
visits_at m s = map (λ e. record { station = s; train = e.train; visit = e.visit }) (m s).visits

unfoldable pub relations_at : Timetable → Station → List StationRelation
relations_at m s = map (λ r. record { station = s; relation = r }) (m s).relations

-- the stations of the network rise
unfoldable pub timetable_numbers_as : FileForm → Network → Timetable → List ℕ
timetable_numbers_as form n m =
    let vs : List StationVisit = flat_map (visits_at m) (stations_of n) in
    let rs : List StationRelation = flat_map (relations_at m) (stations_of n) in
    length vs ∷ (flat_map (visit_numbers form) vs ++ (length rs ∷ flat_map station_relation_numbers rs))

-- "what is written is the new form"
abbrev pub timetable_numbers : Network → Timetable → List ℕ
timetable_numbers n m = timetable_numbers_as newest_form n m

-- The key ring of this module: `unfolding opened` opens every definition above.
unfoldable pub opened : Unit {0}
unfolding visit_ranges in_link_entry out_link_entry in_link_numbers out_link_numbers station_visit_of visit_entry visit_numbers visit_said visit_floor relation_floor
    visits_format relations_format timetable_format visit_refusal relation_refusal enter_visit enter_relation entered timetable_of read_timetable_as
    visits_at relations_at timetable_numbers_as
opened = tt
