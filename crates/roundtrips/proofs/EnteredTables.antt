-- Visits and relations put into a timetable in their order: a train above all others of its table goes to the end, and
-- so does a relation. Assumes nothing.
use Prim.Native.Nat.{ℕ, ◌<◌}
use mathlib.Core.Path.{◌≡◌, refl, sym, ◌∙◌, ap, subst, fun_ext}
use mathlib.Core.Bool.{Bool, false, not, ◌&&◌}
use mathlib.Core.List.{List, [], ◌∷◌, map, map-append}
use native.Mathlib.Omega.{arith}
use lib.Dec.{T, ltb, leb, eqb_refl, ltb→lt, lt→ltb}
use lib.ListN.{length, length-map}
use borrow.Author.Tests.{eqb-true, le-ltb, leb-false, lt-leb}
use Rattle.base.specs.Choice.{◌if◌else◌}
use Rattle.base.specs.Lists.{every, keep, below, same}
use Rattle.base.proofs.Tests.{T_true, true_T, T_false, by_value, parts, passed, rest_passed, held, eqb_turned, every_head, every_tail, every_mapped}
use Rattle.base.proofs.Sorted.{below_cases, below_itself, below_trans, same_equal}
use Rattle.railway.specs.Ranges.{same_station}
use Rattle.railway.specs.Relations.{key, precedes, same_relation}
use Rattle.network.specs.Networks.{listed, track_known}
use Rattle.timetable.specs.Tables.{Entry, Table, empty, enter, add_visit, insert, add_relation, full_visits, full_relations}
use Rattle.timetable.specs.Machine.{Timetable, put, nothing_placed}
use Rattle.timetable.specs.Good.{links_good}
use Rattle.timetable.specs.TimetableFile.{StationVisit, visit_refusal, relation_refusal, enter_visit, enter_relation}
use Rattle.timetable.proofs.TableLaws.{number}
use Rattle.roundtrips.specs.Types.{Station, Relation, StationRelation, Network}
use Rattle.roundtrips.proofs.ListLaws.{two_last, kept_both}
use Rattle.roundtrips.proofs.OrderLaws.{before, visit_key, relation_key}
use Rattle.roundtrips.proofs.EnterLaws.{station_same, at, snoc, keep_here, keep_elsewhere, Entering}

-- at the end of a table's lists

pub enter_last : (e : Entry) (es : List Entry) → T (every (λ x. ltb (number x) (number e)) es) → enter e es ≡ snoc es e
unfolding enter
enter_last e [] t = refl
enter_last e (x ∷ xs) t =
    rw (le-ltb (number e) (number x) (omega (arith, ltb→lt (number x) (number e) (every_head (λ x. ltb (number x) (number e)) x xs t))))
    (ap (λ (l : List Entry). x ∷ l) (enter_last e xs (every_tail (λ x. ltb (number x) (number e)) x xs t)))

pub insert_last : (r : Relation) (rs : List Relation) → T (every (λ x. precedes x r) rs) → insert r rs ≡ snoc rs r
unfolding insert precedes same_relation
insert_last r [] t = refl
insert_last r (x ∷ xs) t =
    let b : T (below (key x) (key r)) = every_head (λ x. precedes x r) x xs t in
    rw (
      T_false (below (key r) (key x)) (λ u. below_itself (key x) (below_trans (key x) (key r) (key x) b u)),
      T_false (same (key r) (key x)) (λ u. below_itself (key x) (subst (λ (k : List ℕ). T (below (key x) k)) (same_equal (key r) (key x) u) b)),
    )
    (ap (λ (l : List Relation). x ∷ l) (insert_last r xs (every_tail (λ x. precedes x r) x xs t)))

-- a table put at one station, elsewhere what was there
put_made : (s : Station) (tab : Table) (m made : Timetable) → tab ≡ made s → ((k : Station) → same_station s k ≡ false → m k ≡ made k) → put s tab m ≡ made
unfolding put
put_made s tab m made here there =
    fun_ext (λ k. by_value (same_station k s)
    (λ e. rw e (here ∙ ap made (sym (station_same k s (true_T (same_station k s) e)))))
    (λ e. rw e (there k (eqb_turned s.0 k.0 ∙ e))))

-- not refused: known, and there is room
module _ (b : Bool) (count most : ℕ) where
  room_free : (7 if not b else 12 if leb most count else 0) ≡ 0 → T b × (count < most)
  room_free e = (
    held 6 b (12 if leb most count else 0) e,
    leb-false most count (passed 11 (leb most count) 0 (rest_passed 6 (not b) (12 if leb most count else 0) e)),
  )

  room_fits : T b → count < most → (7 if not b else 12 if leb most count else 0) ≡ 0
  room_fits t h = rw (T_true b t, lt-leb most count h)

-- visits

abbrev pub visit_station : StationVisit → Station
visit_station v = v.station

abbrev pub to_entry : StationVisit → Entry
to_entry v = record { train = v.train; visit = v.visit }

-- the visits, station by station
unfoldable pub with_visits : List StationVisit → Timetable
with_visits vs = λ k. record { visits = map to_entry (keep (at visit_station k) vs); relations = [] }

-- "7 station, track or line unknown, or the line doesn't run that way"
abbrev pub visit_known : Network → StationVisit → Bool
visit_known n v = track_known n v.station v.visit.track && links_good n v.station v.visit

trains_below : (xs : List StationVisit) (y : StationVisit) → T (every (λ x. before visit_key x y) xs)
    → T (every (λ e. ltb (number e) y.train.0) (map to_entry (keep (at visit_station y.station) xs)))
unfolding below
trains_below xs y t =
    every_mapped (λ e. ltb (number e) y.train.0) (λ x. at visit_station y.station x && before visit_key x y) to_entry
    (λ x u. below_cases x.station.0 y.station.0 (x.train.0 ∷ []) (y.train.0 ∷ []) (search parts)
    (λ h. absurd (omega (arith, eqb-true x.station.0 y.station.0 (T_true (at visit_station y.station x) (search parts)))))
    (λ e v. below_cases x.train.0 y.train.0 [] [] v (λ h. lt→ltb x.train.0 y.train.0 h) (λ e w. absurd w)))
    (keep (at visit_station y.station) xs)
    (kept_both (at visit_station y.station) (λ x. before visit_key x y) xs t)

pub visits_entering : (n : Network) → Entering visit_station (before visit_key) (visit_refusal n) enter_visit with_visits (visit_known n) 24
unfolding with_visits visit_refusal full_visits enter_visit add_visit
visits_entering n = record {
  step = λ xs y t.
      put_made y.station _ (with_visits xs) (with_visits (snoc xs y))
      (ap (λ (l : List Entry). record { visits = l; relations = [] })
      (enter_last (to_entry y) (map to_entry (keep (at visit_station y.station) xs)) (trains_below xs y (two_last (before visit_key) xs y t))
      ∙ sym (ap (map to_entry) (keep_here visit_station xs y y.station (T_true (same_station y.station y.station) (eqb_refl y.station.0)))
      ∙ map-append to_entry (keep (at visit_station y.station) xs) (y ∷ []))))
      (λ k e. ap (λ (l : List StationVisit). record { visits = map to_entry l; relations = [] }) (sym (keep_elsewhere visit_station xs y k e)));
  free = λ xs y e.
      let (t, h) = room_free (visit_known n y) (length (map to_entry (keep (at visit_station y.station) xs))) 24 e in
      (t, omega (arith, h, length-map (keep (at visit_station y.station) xs) to_entry));
  fits = λ xs y t h.
      room_fits (visit_known n y) (length (map to_entry (keep (at visit_station y.station) xs))) 24 t
      (omega (arith, h, length-map (keep (at visit_station y.station) xs) to_entry));
}

-- relations

abbrev pub relation_station : StationRelation → Station
relation_station r = r.station

abbrev pub to_relation : StationRelation → Relation
to_relation r = r.relation

-- the relations, station by station, beside the visits
unfoldable pub with_relations : Timetable → List StationRelation → Timetable
with_relations m rs = λ k. record { visits = (m k).visits; relations = map to_relation (keep (at relation_station k) rs) }

abbrev pub relation_known : Network → StationRelation → Bool
relation_known n r = listed n r.station

relations_below : (xs : List StationRelation) (y : StationRelation) → T (every (λ x. before relation_key x y) xs)
    → T (every (λ r. precedes r y.relation) (map to_relation (keep (at relation_station y.station) xs)))
unfolding precedes
relations_below xs y t =
    every_mapped (λ r. precedes r y.relation) (λ x. at relation_station y.station x && before relation_key x y) to_relation
    (λ x u. below_cases x.station.0 y.station.0 (key x.relation) (key y.relation) (search parts)
    (λ h. absurd (omega (arith, eqb-true x.station.0 y.station.0 (T_true (at relation_station y.station x) (search parts)))))
    (λ e v. v))
    (keep (at relation_station y.station) xs)
    (kept_both (at relation_station y.station) (λ x. before relation_key x y) xs t)

pub relations_entering : (n : Network) (m : Timetable)
    → Entering relation_station (before relation_key) (relation_refusal n) enter_relation (with_relations m) (relation_known n) 6
unfolding with_relations relation_refusal full_relations enter_relation add_relation
relations_entering n m = record {
  step = λ xs y t.
      put_made y.station _ (with_relations m xs) (with_relations m (snoc xs y))
      (ap (λ (l : List Relation). record { visits = (m y.station).visits; relations = l })
      (insert_last y.relation (map to_relation (keep (at relation_station y.station) xs)) (relations_below xs y (two_last (before relation_key) xs y t))
      ∙ sym (ap (map to_relation) (keep_here relation_station xs y y.station (T_true (same_station y.station y.station) (eqb_refl y.station.0)))
      ∙ map-append to_relation (keep (at relation_station y.station) xs) (y ∷ []))))
      (λ k e. ap (λ (l : List StationRelation). record { visits = (m k).visits; relations = map to_relation l }) (sym (keep_elsewhere relation_station xs y k e)));
  free = λ xs y e.
      let (t, h) = room_free (relation_known n y) (length (map to_relation (keep (at relation_station y.station) xs))) 6 e in
      (t, omega (arith, h, length-map (keep (at relation_station y.station) xs) to_relation));
  fits = λ xs y t h.
      room_fits (relation_known n y) (length (map to_relation (keep (at relation_station y.station) xs))) 6 t
      (omega (arith, h, length-map (keep (at relation_station y.station) xs) to_relation));
}

-- at the start
pub no_visits : with_visits [] ≡ nothing_placed
unfolding with_visits nothing_placed keep empty
no_visits = refl

pub no_relations : (vs : List StationVisit) → with_relations (with_visits vs) [] ≡ with_visits vs
unfolding with_visits with_relations keep
no_relations vs = refl
