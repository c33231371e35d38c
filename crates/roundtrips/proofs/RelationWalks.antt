-- A relation's entry, walked: its numbers are those that the relation is written with, it is in range, and it is above
-- the floor; and such a relation walks it. The trains as numbers by induction; the four places of a group by how many
-- are in use. Assumes nothing.
use Prim.Native.Nat.{ℕ, zero, suc, ◌+◌, ◌-◌, ◌≤◌}
use mathlib.Core.Path.{◌≡◌, refl, sym, ◌∙◌, ap, ap₂, subst}
use mathlib.Core.Bool.{Bool, true, false, not, ◌&&◌}
use mathlib.Core.List.{List, [], ◌∷◌, ◌++◌, map}
use mathlib.Core.Logic.{inl, inr}
use native.Mathlib.Omega.{arith}
use lib.Dec.{T, eqb}
use lib.ListN.{length, get_or, replicate, length-map}
use Rattle.base.specs.Choice.{◌if◌else◌}
use Rattle.std.specs.Prelude.{if◌then◌else◌}
use Rattle.base.specs.Lists.{within}
use Rattle.base.proofs.Tests.{and_l, and_r, both, parts}
use Rattle.numbers.specs.Numbers.{width}
use Rattle.railway.specs.Ranges.{interval_ok}
use Rattle.railway.specs.Relations.{used, trains_ok, pair_ok, relation_ok, group_key, key}
use Rattle.railway.specs.Edits.{station_relation_ok}
use Rattle.timetable.specs.Tables.{packed}
use Rattle.timetable.specs.Formats.{floor_after, compared}
use Rattle.timetable.specs.EditsFile.{trains_format, pair_of, group_of, relation_of, most_trains, trains_part, train_count_part, interval_part, relation_entry, group_numbers, relation_numbers}
use Rattle.timetable.specs.EditsFile.{station_relation_entry, station_relation_numbers}
use Rattle.timetable.proofs.TableLaws.{Further, Places, places, places_fit, used_two, used_three, used_four}
use Rattle.roundtrips.specs.Types.{Train, Trains, Relation, Connection, Disconnection, Dependency, StationRelation}
use Rattle.roundtrips.proofs.Walks.{InRange, walks}
use Rattle.roundtrips.proofs.WalkLaws.{walks_made, made_walks}
use Rattle.roundtrips.proofs.RowsWalked.{Over, raised, raise, in_test, test_in, most_test, test_most}

-- trains as numbers, each in range, rising where they must
unfoldable pub TrainsIn : Bool → ℕ → List ℕ → Type 0
TrainsIn rise before [] = Unit
TrainsIn rise before (t ∷ ts) = InRange (if rise then before + 1 else 1) 9999 t × TrainsIn rise t ts

pub walks_trains : (rise : Bool) (before : ℕ) (floor : List ℕ) (p : ℕ) (ts : List ℕ) → TrainsIn rise before ts → Over floor ts
    → walks (trains_format rise (length ts) before floor) p ts ts
unfolding walks trains_format compared TrainsIn Over
walks_trains rise before floor p [] i o = refl
walks_trains rise before floor p (t ∷ ts) (x, i) (h, o) = (
  raise (if rise then before + 1 else 1) 9999 floor t x h,
  walks_made (λ ts. t ∷ ts) (trains_format rise (length ts) t (floor_after t floor)) (p + width t) ts ts (walks_trains rise t (floor_after t floor) (p + width t) ts i o),
)

pub trains_walk : (rise : Bool) (k before : ℕ) (floor : List ℕ) (p : ℕ) (ns ts : List ℕ) → walks (trains_format rise k before floor) p ns ts
    → (ns ≡ ts) × (length ts ≡ k) × TrainsIn rise before ts × Over floor ts
unfolding walks trains_format compared TrainsIn Over
trains_walk rise zero before floor p [] ts w = rw (sym w) (refl, refl, tt, tt)
trains_walk rise zero before floor p (n ∷ ns) ts w = absurd w
trains_walk rise (suc k) before floor p [] ts w = absurd w
trains_walk rise (suc k) before floor p (n ∷ ns) ts (x, w) =
    let (us, v, e) = made_walks (λ ts. n ∷ ts) (trains_format rise k n (floor_after n floor)) (p + width n) ns ts w in
    let (q, l, i, o) = trains_walk rise k n (floor_after n floor) (p + width n) ns us v in
    let (y, h) = raised (if rise then before + 1 else 1) 9999 floor n x in
    rw (sym e) (ap (λ (l : List ℕ). n ∷ l) q, ap suc l, (y, i), (h, o))

-- groups

abbrev number : Train → ℕ
number t = t.0

in_train : (lo t : ℕ) → lo ≤ t → t ≤ 9999 → InRange lo 9999 t
in_train lo t l h = record { low = l; high = h; short = omega arith }

-- the trains of a group's numbers are good, and are those numbers
pub group_back : (ts : List ℕ) → TrainsIn true 0 ts → 2 ≤ length ts → length ts ≤ 4 → T (trains_ok (group_of ts)) × (map number (used (group_of ts)) ≡ ts)
unfolding TrainsIn group_of packed
group_back [] i l m = absurd (omega arith)
group_back (a ∷ []) i l m = absurd (omega arith)
group_back (a ∷ b ∷ []) (x, (y, z)) l m =
    let p : Places (group_of (a ∷ b ∷ [])) = record {
      first_low = omega (arith, x.low);
      second_above = omega (arith, y.low);
      second_high = y.high;
      third = inl refl;
      fourth = inl refl;
    } in
    (places_fit (group_of (a ∷ b ∷ [])) p, ap (map number) (used_two (group_of (a ∷ b ∷ [])) p refl refl))
group_back (a ∷ b ∷ c ∷ []) (x, (y, (z, u))) l m =
    let p : Places (group_of (a ∷ b ∷ c ∷ [])) = record {
      first_low = omega (arith, x.low);
      second_above = omega (arith, y.low);
      second_high = y.high;
      third = inr (omega (arith, x.low, y.low), omega (arith, z.low), z.high);
      fourth = inl refl;
    } in
    (places_fit (group_of (a ∷ b ∷ c ∷ [])) p, ap (map number) (used_three (group_of (a ∷ b ∷ c ∷ [])) p (omega (arith, z.low)) refl))
group_back (a ∷ b ∷ c ∷ d ∷ []) (x, (y, (z, (u, v)))) l m =
    let p : Places (group_of (a ∷ b ∷ c ∷ d ∷ [])) = record {
      first_low = omega (arith, x.low);
      second_above = omega (arith, y.low);
      second_high = y.high;
      third = inr (omega (arith, x.low, y.low), omega (arith, z.low), z.high);
      fourth = inr (omega (arith, x.low, y.low, z.low), omega (arith, u.low), u.high);
    } in
    (places_fit (group_of (a ∷ b ∷ c ∷ d ∷ [])) p, ap (map number) (used_four (group_of (a ∷ b ∷ c ∷ d ∷ [])) p (omega (arith, z.low)) (omega (arith, u.low))))
group_back (a ∷ b ∷ c ∷ d ∷ e ∷ ts) i l m = absurd (omega arith)

-- zeros in the places not used
abbrev pub unused : ℕ → List ℕ
unused k = replicate (4 - k) 0

-- the list of a good group's trains
pub record GroupIn (us : Trains) (ts : List Train) : Type 0 where
  pub least : 2 ≤ length ts
  pub most : length ts ≤ 4
  pub each : TrainsIn true 0 (map number ts)
  pub back : group_of (map number ts) ≡ us
  pub places : us.a.0 ∷ us.b.0 ∷ us.c.0 ∷ us.d.0 ∷ [] ≡ map number ts ++ unused (length ts)

nobody : (t : Train) → t.0 ≡ 0 → ◌≡◌ {A = Train} (record { 0 = 0 }) t
nobody t e = ap (λ (k : ℕ). record { 0 = k }) (sym e)

pub group_in : (us : Trains) → T (trains_ok us) → GroupIn us (used us)
unfolding TrainsIn group_of packed
group_in us t = let p = places us t in go p p.third p.fourth
  where
    go : Places us → Further us.b us.c → Further us.c us.d → GroupIn us (used us)
    go p (inl e) (inl f) = rw (used_two us p e f) (record {
      least = omega arith;
      most = omega arith;
      each = (in_train _ _ (omega (arith, p.first_low)) (omega arith), (in_train _ _ (omega (arith, p.second_above)) p.second_high, tt));
      back = ap₂ (λ (c d : Train). record { a = us.a; b = us.b; c = c; d = d }) (nobody us.c e) (nobody us.d f);
      places = ap₂ (λ (c d : ℕ). us.a.0 ∷ us.b.0 ∷ c ∷ d ∷ []) e f;
    })
    go p (inl e) (inr f) = absurd (omega arith)
    go p (inr e) (inl f) = rw (used_three us p (omega arith) f) (record {
      least = omega arith;
      most = omega arith;
      each = (in_train _ _ (omega (arith, p.first_low)) (omega arith), (in_train _ _ (omega (arith, p.second_above)) p.second_high, (in_train _ _ (omega arith) e.2, tt)));
      back = ap (λ (d : Train). record { a = us.a; b = us.b; c = us.c; d = d }) (nobody us.d f);
      places = ap (λ (d : ℕ). us.a.0 ∷ us.b.0 ∷ us.c.0 ∷ d ∷ []) f;
    })
    go p (inr e) (inr f) = rw (used_four us p (omega arith) (omega arith)) (record {
      least = omega arith;
      most = omega arith;
      each = (
        in_train _ _ (omega (arith, p.first_low)) (omega arith),
        (
          in_train _ _ (omega (arith, p.second_above)) p.second_high,
          (in_train _ _ (omega arith) e.2, (in_train _ _ (omega arith) f.2, tt)),
        ),
      );
      back = refl;
      places = refl;
    })

-- relations

-- the numbers of a relation behind its kind and interval, in range
pub record RelationIn (kind i : ℕ) (ts : List ℕ) : Type 0 where
  pub kinds : InRange 1 3 kind
  pub interval : InRange 0 240 i
  pub many : InRange 2 (most_trains kind) (length ts)
  pub trains : TrainsIn (not (eqb kind 3)) 0 ts

abbrev listed : ℕ → ℕ → List ℕ → List ℕ
listed kind i ts = kind ∷ i ∷ length ts ∷ ts

pub walks_numbers : (floor : List ℕ) (p kind i : ℕ) (ts : List ℕ) → RelationIn kind i ts → Over floor (listed kind i ts)
    → walks (relation_entry floor) p (listed kind i ts) (relation_of kind i ts)
unfolding walks relation_entry interval_part train_count_part trains_part compared Over
walks_numbers floor p kind i ts r (a, (b, (c, o))) = (
  raise 1 3 floor kind r.kinds a,
  (
    raise 0 240 _ i r.interval b,
    (
      raise 2 (most_trains kind) _ (length ts) r.many c,
      walks_made (relation_of kind i) (trains_format (not (eqb kind 3)) (length ts) 0 _) _ ts ts (walks_trains (not (eqb kind 3)) 0 _ _ ts r.trains o),
    ),
  ),
)

pub numbers_walk : (floor : List ℕ) (p : ℕ) (ns : List ℕ) (r : Relation) → walks (relation_entry floor) p ns r
    → (kind : ℕ) × (i : ℕ) × (ts : List ℕ) × (ns ≡ listed kind i ts) × RelationIn kind i ts × Over floor ns × (relation_of kind i ts ≡ r)
unfolding walks relation_entry interval_part train_count_part trains_part compared Over
numbers_walk floor p [] r w = absurd w
numbers_walk floor p (kind ∷ []) r w = absurd w.1
numbers_walk floor p (kind ∷ i ∷ []) r w = absurd w.1.1
numbers_walk floor p (kind ∷ i ∷ k ∷ ns) r (x, (y, (z, w))) =
    let (ts, v, e) = made_walks (relation_of kind i) (trains_format (not (eqb kind 3)) k 0 _) _ ns r w in
    let (q, l, t, o) = trains_walk (not (eqb kind 3)) k 0 _ _ ns ts v in
    let (a, f) = raised 1 3 floor kind x in
    let (b, g) = raised 0 240 _ i y in
    let (c, h) = raised 2 (most_trains kind) _ k z in
    (kind, i, ts, ap₂ (λ (k : ℕ) (l : List ℕ). kind ∷ i ∷ k ∷ l) (sym l) q, record { kinds = a; interval = b; many = rw l c; trains = t }, (f, (g, (h, rw q o))), e)

-- what the numbers make is good, and is written with them
group_made : (kind i : ℕ) (ts : List ℕ) → InRange 0 240 i → InRange 2 4 (length ts) → TrainsIn true 0 ts
    → (group_numbers kind i (group_of ts) ≡ listed kind i ts) × T (interval_ok i && trains_ok (group_of ts))
unfolding group_numbers
group_made kind i ts a b c =
    let (t, e) = group_back ts c b.low b.high in
    let l : length (used (group_of ts)) ≡ length ts = sym (length-map (used (group_of ts)) number) ∙ ap length e in
    (ap₂ (λ (k : ℕ) (l : List ℕ). kind ∷ i ∷ k ∷ l) l e, both (interval_ok i) (trains_ok (group_of ts)) (most_test 240 i a) t)

pair_made : (i : ℕ) (ts : List ℕ) → InRange 0 240 i → InRange 2 2 (length ts) → TrainsIn false 0 ts
    → (3 ∷ i ∷ 2 ∷ get_or ts 0 0 ∷ get_or ts 1 0 ∷ [] ≡ listed 3 i ts) × T (interval_ok i && pair_ok (pair_of ts))
unfolding TrainsIn pair_ok pair_of
pair_made i [] a b c = absurd (omega (arith, b.low))
pair_made i (t ∷ []) a b c = absurd (omega (arith, b.low))
pair_made i (t ∷ u ∷ []) a b (x, (y, z)) =
    (refl, both (interval_ok i) (pair_ok (pair_of (t ∷ u ∷ []))) (most_test 240 i a) (both (within 1 9999 t) (within 1 9999 u) (in_test 1 9999 t x) (in_test 1 9999 u y)))
pair_made i (t ∷ u ∷ v ∷ ts) a b c = absurd (omega (arith, b.high))

pub relation_made : (kind i : ℕ) (ts : List ℕ) → RelationIn kind i ts → (relation_numbers (relation_of kind i ts) ≡ listed kind i ts) × T (relation_ok (relation_of kind i ts))
unfolding relation_numbers relation_of relation_ok most_trains pair_of
relation_made zero i ts r = absurd (omega (arith, r.kinds.low))
relation_made (suc zero) i ts r = group_made 1 i ts r.interval r.many r.trains
relation_made (suc (suc zero)) i ts r = group_made 2 i ts r.interval r.many r.trains
relation_made (suc (suc (suc zero))) i ts r = pair_made i ts r.interval r.many r.trains
relation_made (suc (suc (suc (suc k)))) i ts r = absurd (omega (arith, r.kinds.high))

-- and a good relation is made of the numbers that it is written with
pub record Made (r : Relation) : Type 0 where
  pub kind : ℕ
  pub interval : ℕ
  pub trains : List ℕ
  pub within : RelationIn kind interval trains
  pub value : relation_of kind interval trains ≡ r
  pub written : relation_numbers r ≡ listed kind interval trains
  pub keyed : key r ≡ kind ∷ interval ∷ length trains ∷ (trains ++ unused (length trains))

module _ (kind i : ℕ) (us : Trains) (t : T (interval_ok i && trains_ok us)) where
  group_within : InRange 1 3 kind → most_trains kind ≡ 4 → not (eqb kind 3) ≡ true → RelationIn kind i (map number (used us))
  group_within k m b =
      let g = group_in us (and_r (interval_ok i) (trains_ok us) t) in
      record {
        kinds = k;
        interval = test_most 240 i (omega arith) (and_l (interval_ok i) (trains_ok us) t);
        many = rw (length-map (used us) number, m) (record { low = g.least; high = g.most; short = omega (arith, g.most) });
        trains = rw b g.each;
      }

  group_written : group_numbers kind i us ≡ listed kind i (map number (used us))
  unfolding group_numbers
  group_written = ap (λ (k : ℕ). kind ∷ i ∷ k ∷ map number (used us)) (sym (length-map (used us) number))

  group_keyed : group_key kind i us ≡ kind ∷ i ∷ length (map number (used us)) ∷ (map number (used us) ++ unused (length (map number (used us))))
  unfolding group_key
  group_keyed =
      let g = group_in us (and_r (interval_ok i) (trains_ok us) t) in
      rw (length-map (used us) number) (ap (λ (l : List ℕ). kind ∷ i ∷ length (used us) ∷ l) g.places)

  group_value : (make : Trains → Relation) → make (group_of (map number (used us))) ≡ make us
  group_value make = ap make (group_in us (and_r (interval_ok i) (trains_ok us) t)).back

pub relation_numbered : (r : Relation) → T (relation_ok r) → Made r
unfolding relation_numbers relation_of relation_ok most_trains pair_ok pair_of TrainsIn key
relation_numbered (Connection i us) t = record {
  kind = 1;
  interval = i;
  trains = map number (used us);
  within = group_within 1 i us t (test_in 1 3 1 (omega arith) tt) refl refl;
  value = group_value 1 i us t (Connection i);
  written = group_written 1 i us t;
  keyed = group_keyed 1 i us t;
}
relation_numbered (Disconnection i us) t = record {
  kind = 2;
  interval = i;
  trains = map number (used us);
  within = group_within 2 i us t (test_in 1 3 2 (omega arith) tt) refl refl;
  value = group_value 2 i us t (Disconnection i);
  written = group_written 2 i us t;
  keyed = group_keyed 2 i us t;
}
relation_numbered (Dependency i q) t = record {
  kind = 3;
  interval = i;
  trains = q.arriver.0 ∷ q.departer.0 ∷ [];
  within = record {
    kinds = test_in 1 3 3 (omega arith) tt;
    interval = test_most 240 i (omega arith) (search parts);
    many = test_in 2 2 2 (omega arith) tt;
    trains = (test_in 1 9999 q.arriver.0 (omega arith) (search parts), (test_in 1 9999 q.departer.0 (omega arith) (search parts), tt));
  };
  value = refl;
  written = refl;
  keyed = refl;
}

-- the entry

-- in range, and above the floor
pub record RelationFits (floor : List ℕ) (r : Relation) : Type 0 where
  pub good : T (relation_ok r)
  pub above : Over floor (relation_numbers r)

pub walks_relation : (floor : List ℕ) (p : ℕ) (r : Relation) → RelationFits floor r → walks (relation_entry floor) p (relation_numbers r) r
walks_relation floor p r f =
    let m = relation_numbered r f.good in
    rw m.written (rw m.value at (walks_numbers floor p m.kind m.interval m.trains m.within (rw m.written at f.above)))

pub relation_walks : (floor : List ℕ) (p : ℕ) (ns : List ℕ) (r : Relation) → walks (relation_entry floor) p ns r → (ns ≡ relation_numbers r) × RelationFits floor r
relation_walks floor p ns r w =
    let (kind, i, ts, e, x, o, v) = numbers_walk floor p ns r w in
    let (q, t) = relation_made kind i ts x in
    let z : ns ≡ relation_numbers r = e ∙ sym q ∙ ap relation_numbers v in
    (z, record { good = subst (λ (r : Relation). T (relation_ok r)) v t; above = subst (Over floor) z o })

-- a relation with its station before it
pub record StationRelationFits (floor : List ℕ) (r : StationRelation) : Type 0 where
  pub good : T (station_relation_ok r)
  pub above : Over floor (station_relation_numbers r)

pub walks_station_relation : (floor : List ℕ) (p : ℕ) (r : StationRelation) → StationRelationFits floor r
    → walks (station_relation_entry floor) p (station_relation_numbers r) r
unfolding walks station_relation_entry station_relation_numbers station_relation_ok compared Over
walks_station_relation floor p r f =
    let (h, o) = f.above in (
      raise 1 16 floor r.station.0 (test_in 1 16 r.station.0 (omega arith) (search parts)) h,
      walks_made (λ q. record { station = record { 0 = r.station.0 }; relation = q }) (relation_entry (floor_after r.station.0 floor)) _
          (relation_numbers r.relation) r.relation
          (walks_relation _ _ r.relation (record { good = search parts; above = o })),
    )

pub station_relation_walks : (floor : List ℕ) (p : ℕ) (ns : List ℕ) (r : StationRelation) → walks (station_relation_entry floor) p ns r
    → (ns ≡ station_relation_numbers r) × StationRelationFits floor r
unfolding walks station_relation_entry station_relation_numbers station_relation_ok compared Over
station_relation_walks floor p [] r w = absurd w
station_relation_walks floor p (s ∷ ns) r (x, w) =
    let (q, v, e) = made_walks (λ q. record { station = record { 0 = s }; relation = q }) (relation_entry (floor_after s floor)) _ ns r w in
    let (y, h) = raised 1 16 floor s x in
    let (z, f) = relation_walks (floor_after s floor) _ ns q v in
    rw (← e) (ap (λ (l : List ℕ). s ∷ l) z, record { good = both (within 1 16 s) (relation_ok q) (in_test 1 16 s y) f.good; above = (h, f.above) })
