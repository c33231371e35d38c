-- The visits and relations of a whole timetable as they are written: in range, rising, known, within the limits; and
-- station by station they are the timetable. Assumes nothing.
use Prim.Native.Nat.{◌*◌, ◌≤◌}
use mathlib.Core.Path.{◌≡◌, refl, sym, ◌∙◌, ap, ap₂, fun_ext}
use mathlib.Core.Bool.{Bool, true, false, ◌&&◌}
use mathlib.Core.List.{List, [], ◌∷◌, map}
use native.Mathlib.Omega.{arith}
use lib.Dec.{T, leb, eqb_refl, ltb→lt, leb→le}
use lib.ListN.{length, length-map, length-take}
use Rattle.base.specs.Lists.{every, keep, each_two, below}
use Rattle.base.proofs.Tests.{true_T, by_value, and_l, and_r, both, parts, every_weaker, every_both, every_mapped, every_flatMap, every_true}
use Rattle.base.proofs.Sorted.{smaller, two_map, two_weaker, below_equal, below_smaller}
use Rattle.railway.specs.Ranges.{station_ok, train_ok, track_ok, minute_ok}
use Rattle.railway.specs.Relations.{relation_ok, key, precedes}
use Rattle.railway.specs.Edits.{station_relation_ok}
use Rattle.network.specs.Networks.{station_rows, stations_of, station_row_ok, listed, track_known, network_refusal}
use Rattle.network.proofs.NetworkLaws.{NetworkFacts, network_facts, stations_listed}
use Rattle.timetable.specs.Visits.{ins, outs}
use Rattle.timetable.specs.Tables.{Entry, Table, empty}
use Rattle.timetable.specs.Machine.{Timetable}
use Rattle.timetable.specs.Good.{Whole, in_good, out_good, links_good, values_good, visit_good, entry_good}
use Rattle.timetable.specs.TimetableFile.{StationVisit, visits_at, relations_at}
use Rattle.timetable.proofs.TableLaws.{number, GoodTable, table_facts}
use Rattle.roundtrips.specs.Types.{Station, InLink, OutLink, Visit, Relation, StationRelation, Network}
use Rattle.roundtrips.proofs.ListLaws.{flatMap_length}
use Rattle.roundtrips.proofs.VisitWalks.{in_link_ok, out_link_ok, visit_ok}
use Rattle.roundtrips.proofs.OrderLaws.{before, visit_key, relation_key}
use Rattle.roundtrips.proofs.TimetableWalks.{all_visits, all_relations, VisitsIn, RelationsIn}
use Rattle.roundtrips.proofs.EnterLaws.{at, Clear}
use Rattle.roundtrips.proofs.EnteredTables.{visit_station, to_entry, with_visits, visit_known, visits_entering}
use Rattle.roundtrips.proofs.EnteredTables.{relation_station, to_relation, with_relations, relation_known, relations_entering}
use Rattle.roundtrips.proofs.StationLists.{gathered_order, gathered_none, gathered_own}

-- links in range

pub in_fits : (n : Network) (s : Station) (v : Visit) → T (every (in_good n s) (ins v)) → T (in_link_ok v.inward)
unfolding ins in_link_ok in_good every
in_fits n s v t = go v.inward t
  where
    go : (i : InLink) → T (every (in_good n s) (elim i [ InLink.Nothing ↦ [] | InLink.From i ↦ i ∷ [] ])) → T (in_link_ok i)
    go InLink.Nothing t = tt
    go (InLink.From i) t = search parts

pub out_fits : (n : Network) (s : Station) (v : Visit) → T (every (out_good n s) (outs v)) → T (out_link_ok v.outward)
unfolding outs out_link_ok out_good every
out_fits n s v t = go v.outward t
  where
    go : (o : OutLink) → T (every (out_good n s) (elim o [ OutLink.Nothing ↦ [] | OutLink.To o ↦ o ∷ [] ])) → T (out_link_ok o)
    go OutLink.Nothing t = tt
    go (OutLink.To o) t = search parts

module _ (n : Network) (g : network_refusal n ≡ 0) (m : Timetable) (w : Whole n m) where
  facts : NetworkFacts n
  facts = network_facts n g

  rise : T (each_two (smaller (λ (s : Station). s.0)) (stations_of n))
  rise = facts.stations_rise

  -- the stations are in range and listed
  abbrev sound : Station → Bool
  sound s = listed n s && station_ok s

  all_sound : T (every sound (stations_of n))
  unfolding stations_of station_row_ok
  all_sound =
      every_both (listed n) station_ok (stations_of n) (stations_listed n)
      (every_mapped station_ok station_row_ok (λ r. r.station) (λ r t. search parts) (station_rows n) facts.station_rows_ok)

  sixteen : length (stations_of n) ≤ 16
  unfolding stations_of station_rows
  sixteen =
      let c : T (leb n.stationcount 16) = and_r (leb 1 n.stationcount) (leb n.stationcount 16) facts.station_count in
      omega (arith, leb→le n.stationcount 16 c, length-map (station_rows n) (λ r. r.station), length-take n.stationcount n.stations)

  table : (s : Station) → T (listed n s) → GoodTable n s (m s)
  table s l = table_facts n s (m s) (w.good s l)

  -- visits

  own_visits : (s : Station) → T (every (at visit_station s) (visits_at m s))
  unfolding visits_at
  own_visits s =
      every_mapped (at visit_station s) (λ e. true) (λ e. record { station = s; train = e.train; visit = e.visit }) (λ e t. eqb_refl s.0)
      (m s).visits (every_true (m s).visits)

  -- in range and known
  abbrev fine : StationVisit → Bool
  fine v = visit_ok v && visit_known n v

  visit_fine : (s : Station) (e : Entry) → T (station_ok s) → T (entry_good n s e) → T (fine (record { station = s; train = e.train; visit = e.visit }))
  unfolding visit_ok entry_good visit_good values_good links_good
  visit_fine s e t u =
      let i : T (in_link_ok e.visit.inward) = in_fits n s e.visit (search parts) in
      let o : T (out_link_ok e.visit.outward) = out_fits n s e.visit (search parts) in
      let a : T (train_ok e.train) = search parts in
      let b : T (track_ok e.visit.track) = search parts in
      let c : T (minute_ok e.visit.arrival) = search parts in
      let d : T (minute_ok e.visit.departure) = search parts in
      let k : T (track_known n s e.visit.track) = search parts in
      let l : T (every (in_good n s) (ins e.visit)) = search parts in
      let r : T (every (out_good n s) (outs e.visit)) = search parts in
      search both

  visits_fine : T (every fine (all_visits n m))
  unfolding visits_at
  visits_fine =
      every_flatMap fine (visits_at m) sound
      (λ s t. every_mapped fine (entry_good n s) (λ e. record { station = s; train = e.train; visit = e.visit })
      (λ e u. visit_fine s e (and_r (listed n s) (station_ok s) t) u)
      (m s).visits (table s (and_l (listed n s) (station_ok s) t)).visits.each)
      (stations_of n) all_sound

  visits_order : (s : Station) → T (listed n s) → T (each_two (before visit_key) (visits_at m s))
  unfolding visits_at below
  visits_order s l =
      rw (two_map (before visit_key) (λ e. record { station = s; train = e.train; visit = e.visit }) (m s).visits)
      (two_weaker (smaller number) (λ e f. below (s.0 ∷ e.train.0 ∷ []) (s.0 ∷ f.train.0 ∷ [])) (λ e. true)
      (λ e f t u h. below_equal s.0 s.0 (e.train.0 ∷ []) (f.train.0 ∷ []) refl (below_smaller e.train.0 f.train.0 [] [] (ltb→lt (number e) (number f) h)))
      (m s).visits (every_true (m s).visits) (table s l).visits.order)

  visits_few : (s : Station) → T (listed n s) → length (visits_at m s) ≤ 24
  unfolding visits_at
  visits_few s l = omega (arith, length-map {B = StationVisit} (m s).visits (λ e. record { station = s; train = e.train; visit = e.visit }), (table s l).visits.few)

  pub visits_in : VisitsIn (all_visits n m)
  visits_in =
      let h : length (all_visits n m) ≤ length (stations_of n) * 24 = flatMap_length (visits_at m) 24 (listed n) visits_few (stations_of n) (stations_listed n) in
      let k : length (all_visits n m) ≤ 384 = omega (arith, sixteen) in
      record {
        many = record { low = omega arith; high = k; short = omega arith };
        good = every_weaker fine visit_ok (λ v t. and_l (visit_ok v) (visit_known n v) t) (all_visits n m) visits_fine;
        order = gathered_order visit_station (λ v. v.train.0 ∷ []) (visits_at m) own_visits (listed n) visits_order (stations_of n) (stations_listed n) rise;
      }

  -- what a station keeps of them
  pub visits_listed : (k : Station) → T (listed n k) → keep (at visit_station k) (all_visits n m) ≡ visits_at m k
  unfolding listed
  visits_listed k l = gathered_own visit_station (λ v. v.train.0 ∷ []) (visits_at m) own_visits k (stations_of n) rise l

  pub visits_unlisted : (k : Station) → listed n k ≡ false → keep (at visit_station k) (all_visits n m) ≡ []
  unfolding listed
  visits_unlisted k l = gathered_none visit_station (λ v. v.train.0 ∷ []) (visits_at m) own_visits k (stations_of n) l

  pub visits_clear : Clear visit_station (before visit_key) _ _ with_visits (visit_known n) 24 (visits_entering n) (all_visits n m)
  visits_clear = record {
    each_known = every_weaker fine (visit_known n) (λ v t. and_r (visit_ok v) (visit_known n v) t) (all_visits n m) visits_fine;
    few = λ k. by_value (listed n k)
        (λ e. rw (visits_listed k (true_T (listed n k) e)) (visits_few k (true_T (listed n k) e)))
        (λ e. rw (visits_unlisted k e) (omega arith));
  }

  -- relations

  own_relations : (s : Station) → T (every (at relation_station s) (relations_at m s))
  unfolding relations_at
  own_relations s =
      every_mapped (at relation_station s) (λ r. true) (λ r. record { station = s; relation = r }) (λ r t. eqb_refl s.0) (m s).relations (every_true (m s).relations)

  abbrev fair : StationRelation → Bool
  fair r = station_relation_ok r && relation_known n r

  relations_fair : T (every fair (all_relations n m))
  unfolding relations_at station_relation_ok
  relations_fair =
      every_flatMap fair (relations_at m) sound
      (λ s t. every_mapped fair relation_ok (λ r. record { station = s; relation = r })
      (λ r u.
      let a : T (listed n s) = search parts in
      let b : T (station_ok s) = search parts in
      search both)
      (m s).relations (table s (and_l (listed n s) (station_ok s) t)).relations.each)
      (stations_of n) all_sound

  relations_order : (s : Station) → T (listed n s) → T (each_two (before relation_key) (relations_at m s))
  unfolding relations_at precedes
  relations_order s l =
      rw (two_map (before relation_key) (λ r. record { station = s; relation = r }) (m s).relations)
      (two_weaker precedes (λ r q. below (s.0 ∷ key r) (s.0 ∷ key q)) (λ r. true)
      (λ r q t u h. below_equal s.0 s.0 (key r) (key q) refl h)
      (m s).relations (every_true (m s).relations) (table s l).relations.order)

  relations_few : (s : Station) → T (listed n s) → length (relations_at m s) ≤ 6
  unfolding relations_at
  relations_few s l = omega (arith, length-map {B = StationRelation} (m s).relations (λ r. record { station = s; relation = r }), (table s l).relations.few)

  pub relations_in : RelationsIn (all_relations n m)
  relations_in =
      let h : length (all_relations n m) ≤ length (stations_of n) * 6
      = flatMap_length (relations_at m) 6 (listed n) relations_few (stations_of n) (stations_listed n) in
      let k : length (all_relations n m) ≤ 96 = omega (arith, sixteen) in
      record {
        many = record { low = omega arith; high = k; short = omega arith };
        good = every_weaker fair station_relation_ok (λ r t. and_l (station_relation_ok r) (relation_known n r) t) (all_relations n m) relations_fair;
        order = gathered_order relation_station (λ r. key r.relation) (relations_at m) own_relations (listed n) relations_order (stations_of n) (stations_listed n) rise;
      }

  pub relations_listed : (k : Station) → T (listed n k) → keep (at relation_station k) (all_relations n m) ≡ relations_at m k
  unfolding listed
  relations_listed k l = gathered_own relation_station (λ r. key r.relation) (relations_at m) own_relations k (stations_of n) rise l

  pub relations_unlisted : (k : Station) → listed n k ≡ false → keep (at relation_station k) (all_relations n m) ≡ []
  unfolding listed
  relations_unlisted k l = gathered_none relation_station (λ r. key r.relation) (relations_at m) own_relations k (stations_of n) l

  pub relations_clear : (b : Timetable)
      → Clear relation_station (before relation_key) _ _ (with_relations b) (relation_known n) 6 (relations_entering n b) (all_relations n m)
  relations_clear b = record {
    each_known = every_weaker fair (relation_known n) (λ r t. and_r (station_relation_ok r) (relation_known n r) t) (all_relations n m) relations_fair;
    few = λ k. by_value (listed n k)
        (λ e. rw (relations_listed k (true_T (listed n k) e)) (relations_few k (true_T (listed n k) e)))
        (λ e. rw (relations_unlisted k e) (omega arith));
  }

  -- together they are the timetable

  entries_back : (k : Station) → map to_entry (visits_at m k) ≡ (m k).visits
  unfolding visits_at
  entries_back k = map_back (m k).visits
    where
      map_back : (es : List Entry) → map to_entry (map (λ e. record { station = k; train = e.train; visit = e.visit }) es) ≡ es
      map_back [] = refl
      map_back (e ∷ es) = ap (λ (l : List Entry). e ∷ l) (map_back es)

  relations_back : (k : Station) → map to_relation (relations_at m k) ≡ (m k).relations
  unfolding relations_at
  relations_back k = map_back (m k).relations
    where
      map_back : (rs : List Relation) → map to_relation (map (λ r. record { station = k; relation = r }) rs) ≡ rs
      map_back [] = refl
      map_back (r ∷ rs) = ap (λ (l : List Relation). r ∷ l) (map_back rs)

  abbrev table_of : List Entry → List Relation → Table
  table_of es rs = record { visits = es; relations = rs }

  pub written_back : with_relations (with_visits (all_visits n m)) (all_relations n m) ≡ m
  unfolding with_relations with_visits empty
  written_back =
      fun_ext (λ k. by_value (listed n k)
      (λ e.
      let l : T (listed n k) = true_T (listed n k) e in
      ap₂ table_of (ap (map to_entry) (visits_listed k l) ∙ entries_back k) (ap (map to_relation) (relations_listed k l) ∙ relations_back k))
      (λ e.
      ap₂ table_of (ap (map to_entry) (visits_unlisted k e)) (ap (map to_relation) (relations_unlisted k e))
      ∙ sym (w.bare k (rw e tt))))
