-- Visits and relations in range, rising, known and within the limits make a whole timetable, and are those that it is
-- written with. Assumes nothing.
use mathlib.Core.Path.{◌≡◌, refl, sym, ◌∙◌, ap, ap₂, subst, fun_ext}
use mathlib.Core.Bool.{true, not, ◌&&◌}
use mathlib.Core.List.{List, [], ◌∷◌, map, flat_map}
use Rattle.std.specs.Prelude.{Option, None, Some}
use native.Mathlib.Omega.{arith}
use lib.Dec.{T, leb, not_T, eqb→eq, lt→ltb}
use lib.ListN.{length-map}
use Rattle.base.specs.Lists.{every, keep, is, below}
use Rattle.base.proofs.Tests.{not_T_false, and_l, and_r, both, parts, every_head, every_tail, every_weaker, every_both, every_keep, kept_passes, every_mapped}
use Rattle.base.proofs.Counts.{keep_none}
use Rattle.base.proofs.Sorted.{smaller, two_map, two_weaker, two_keep, below_cases}
use Rattle.railway.specs.Ranges.{train_ok, track_ok, minute_ok}
use Rattle.railway.specs.Relations.{relation_ok, key, precedes}
use Rattle.railway.specs.Edits.{station_relation_ok}
use Rattle.network.specs.Networks.{stations_of, station_row, listed, track_known, network_refusal}
use Rattle.network.proofs.NetworkLaws.{network_facts}
use Rattle.network.proofs.RowsInUse.{listed_found}
use Rattle.timetable.specs.Tables.{Entry, empty}
use Rattle.timetable.specs.Good.{Whole, links_good, values_good, visit_good, entry_good}
use Rattle.timetable.specs.TimetableFile.{StationVisit, visits_at, relations_at}
use Rattle.timetable.proofs.TableLaws.{number, GoodVisits, GoodRelations, table_fits}
use Rattle.roundtrips.specs.Types.{Station, Track, Relation, StationRelation, StationRow, Network}
use Rattle.roundtrips.proofs.ListLaws.{kept_both}
use Rattle.roundtrips.proofs.VisitWalks.{visit_ok}
use Rattle.roundtrips.proofs.OrderLaws.{before, visit_key, relation_key}
use Rattle.roundtrips.proofs.TimetableWalks.{VisitsIn, RelationsIn}
use Rattle.roundtrips.proofs.EnterLaws.{station_same, at, Clear}
use Rattle.roundtrips.proofs.EnteredTables.{visit_station, to_entry, with_visits, visit_known, visits_entering}
use Rattle.roundtrips.proofs.EnteredTables.{relation_station, to_relation, with_relations, relation_known, relations_entering}
use Rattle.roundtrips.proofs.StationLists.{regathered}

-- a station whose track is known is listed
pub track_listed : (n : Network) (s : Station) (t : Track) → T (track_known n s t) → T (listed n s)
unfolding track_known
track_listed n s t u = subst T (sym (listed_found n s)) (go (station_row n s) u)
  where
    go : (o : Option StationRow) → T (is (λ r. leb t.0 r.tracks) o) → T (is (λ (r : StationRow). true) o)
    go None u = u
    go (Some r) u = tt

-- a station that is not listed keeps nothing
unlisted_none : {A : Type 0} (station : A → Station) (n : Network) (xs : List A) → T (every (λ x. listed n (station x)) xs) → (k : Station) → T (not (listed n k))
    → keep (at station k) xs ≡ []
unlisted_none station n xs t k u =
    keep_none (at station k) xs (every_weaker (λ x. listed n (station x)) (λ x. not (at station k x))
    (λ x l. not_T (at station k x) (λ e. subst T (not_T_false (listed n k) u) (subst (λ (s : Station). T (listed n s)) (station_same (station x) k e) l))) xs t)

module _ (n : Network) (g : network_refusal n ≡ 0) (vs : List StationVisit) (rs : List StationRelation) (i : VisitsIn vs) (j : RelationsIn rs)
    (c : Clear visit_station (before visit_key) _ _ with_visits (visit_known n) 24 (visits_entering n) vs)
    (d : Clear relation_station (before relation_key) _ _ (with_relations (with_visits vs)) (relation_known n) 6 (relations_entering n (with_visits vs)) rs) where
  visits_known : T (every (λ v. listed n v.station) vs)
  visits_known = every_weaker (visit_known n) (λ v. listed n v.station) (λ v t. track_listed n v.station v.visit.track (search parts)) vs c.each_known

  -- written

  visits_again : (s : Station) → visits_at (with_relations (with_visits vs) rs) s ≡ keep (at visit_station s) vs
  unfolding visits_at with_relations with_visits
  visits_again s = again (keep (at visit_station s) vs) (kept_passes (at visit_station s) vs)
    where
      again : (xs : List StationVisit) → T (every (at visit_station s) xs) → map (λ (e : Entry). record { station = s; train = e.train; visit = e.visit }) (map to_entry xs) ≡ xs
      again [] t = refl
      again (x ∷ xs) t =
          ap₂ (λ (k : Station) (l : List StationVisit). record { station = k; train = x.train; visit = x.visit } ∷ l)
          (sym (station_same x.station s (every_head (at visit_station s) x xs t))) (again xs (every_tail (at visit_station s) x xs t))

  relations_again : (s : Station) → relations_at (with_relations (with_visits vs) rs) s ≡ keep (at relation_station s) rs
  unfolding relations_at with_relations
  relations_again s = again (keep (at relation_station s) rs) (kept_passes (at relation_station s) rs)
    where
      again : (xs : List StationRelation) → T (every (at relation_station s) xs) → map (λ (r : Relation). record { station = s; relation = r }) (map to_relation xs) ≡ xs
      again [] t = refl
      again (x ∷ xs) t =
          ap₂ (λ (k : Station) (l : List StationRelation). record { station = k; relation = x.relation } ∷ l)
          (sym (station_same x.station s (every_head (at relation_station s) x xs t))) (again xs (every_tail (at relation_station s) x xs t))

  pub visits_written : flat_map (visits_at (with_relations (with_visits vs) rs)) (stations_of n) ≡ vs
  unfolding listed
  visits_written =
      ap (λ (f : Station → List StationVisit). flat_map f (stations_of n)) (fun_ext visits_again)
      ∙ regathered visit_station (λ v. v.train.0 ∷ []) (stations_of n) vs (network_facts n g).stations_rise visits_known i.order

  pub relations_written : flat_map (relations_at (with_relations (with_visits vs) rs)) (stations_of n) ≡ rs
  unfolding listed
  relations_written =
      ap (λ (f : Station → List StationRelation). flat_map f (stations_of n)) (fun_ext relations_again)
      ∙ regathered relation_station (λ r. key r.relation) (stations_of n) rs (network_facts n g).stations_rise d.each_known j.order

  -- whole

  entry_fine : (k : Station) (v : StationVisit) → T (at visit_station k v && (visit_ok v && visit_known n v)) → T (entry_good n k (to_entry v))
  unfolding visit_ok entry_good visit_good values_good
  entry_fine k v t =
      let e : v.station ≡ k = station_same v.station k (search parts) in
      let o : T (visit_ok v) = and_l (visit_ok v) (visit_known n v) (and_r (at visit_station k v) (visit_ok v && visit_known n v) t) in
      let a : T (train_ok v.train) = search parts in
      let b : T (track_ok v.visit.track) = search parts in
      let p : T (minute_ok v.visit.arrival) = search parts in
      let q : T (minute_ok v.visit.departure) = search parts in
      let x : T (track_known n v.station v.visit.track) = search parts in
      let y : T (links_good n v.station v.visit) = search parts in
      let u : T (track_known n k v.visit.track) = subst (λ (k : Station). T (track_known n k v.visit.track)) e x in
      let w : T (links_good n k v.visit) = subst (λ (k : Station). T (links_good n k v.visit)) e y in
      search both

  good_visits : (k : Station) → GoodVisits n k (map to_entry (keep (at visit_station k) vs))
  unfolding below
  good_visits k = record {
    few = omega (arith, length-map (keep (at visit_station k) vs) to_entry, c.few k);
    order = rw (two_map (smaller number) to_entry (keep (at visit_station k) vs))
        (two_weaker (before visit_key) (λ x y. smaller number (to_entry x) (to_entry y)) (at visit_station k)
        (λ x y t u b. below_cases x.station.0 y.station.0 (x.train.0 ∷ []) (y.train.0 ∷ []) b
        (λ h. absurd (omega (arith, eqb→eq x.station.0 k.0 t, eqb→eq y.station.0 k.0 u)))
        (λ e v. below_cases x.train.0 y.train.0 [] [] v (λ h. lt→ltb x.train.0 y.train.0 h) (λ e w. absurd w)))
        (keep (at visit_station k) vs) (kept_passes (at visit_station k) vs) (two_keep (before visit_key) (at visit_station k) vs i.order));
    each = every_mapped (entry_good n k) (λ v. at visit_station k v && (visit_ok v && visit_known n v)) to_entry (entry_fine k) (keep (at visit_station k) vs)
        (kept_both (at visit_station k) (λ v. visit_ok v && visit_known n v) vs (every_both visit_ok (visit_known n) vs i.good c.each_known));
  }

  good_relations : (k : Station) → GoodRelations (map to_relation (keep (at relation_station k) rs))
  unfolding precedes station_relation_ok
  good_relations k = record {
    few = omega (arith, length-map (keep (at relation_station k) rs) to_relation, d.few k);
    order = rw (two_map precedes to_relation (keep (at relation_station k) rs))
        (two_weaker (before relation_key) (λ x y. precedes (to_relation x) (to_relation y)) (at relation_station k)
        (λ x y t u b. below_cases x.station.0 y.station.0 (key x.relation) (key y.relation) b
        (λ h. absurd (omega (arith, eqb→eq x.station.0 k.0 t, eqb→eq y.station.0 k.0 u)))
        (λ e v. v))
        (keep (at relation_station k) rs) (kept_passes (at relation_station k) rs) (two_keep (before relation_key) (at relation_station k) rs j.order));
    each = every_mapped relation_ok station_relation_ok to_relation (λ r t. search parts) (keep (at relation_station k) rs)
        (every_keep station_relation_ok (at relation_station k) rs j.good);
  }

  pub made_whole : Whole n (with_relations (with_visits vs) rs)
  unfolding with_relations with_visits empty
  made_whole = record {
    good = λ k l. table_fits n k (with_relations (with_visits vs) rs k) (record { visits = good_visits k; relations = good_relations k });
    bare = λ k l. ap₂ (λ (es : List StationVisit) (rs : List StationRelation). record { visits = map to_entry es; relations = map to_relation rs })
        (unlisted_none visit_station n vs visits_known k l) (unlisted_none relation_station n rs d.each_known k l);
  }
