-- The timetable's format, walked in a form: its numbers are the two counts and those of visits and relations in range,
-- rising, the visits such that the form can say them. Assumes nothing.
use Prim.Native.Nat.{ℕ, ◌+◌}
use mathlib.Core.Path.{◌≡◌, refl, sym, ◌∙◌, ap, ap₂, subst}
use mathlib.Core.List.{List, [], ◌∷◌, ◌++◌, map, flat_map}
use lib.Dec.{T}
use lib.ListN.{length, length-map}
use Rattle.base.specs.Lists.{every, each_two}
use Rattle.numbers.specs.Numbers.{width}
use Rattle.railway.specs.Edits.{station_relation_ok}
use Rattle.network.specs.Networks.{stations_of}
use Rattle.timetable.specs.declared.FileForm.{FileForm}
use Rattle.timetable.specs.Formats.{done, field, ◌and_then◌, Placed}
use Rattle.timetable.specs.EditsFile.{station_relation_entry, station_relation_numbers}
use Rattle.timetable.specs.Machine.{Timetable}
use Rattle.timetable.specs.TimetableFile.{StationVisit, visit_entry, visit_numbers, visit_floor, relation_floor, Entries, visits_format, relations_format}
use Rattle.timetable.specs.TimetableFile.{timetable_format, visits_at, relations_at}
use Rattle.roundtrips.specs.Types.{StationRelation, Network}
use Rattle.roundtrips.proofs.Walks.{InRange, walks}
use Rattle.roundtrips.proofs.WalkLaws.{span, walks_then, then_walks, walks_made, made_walks}
use Rattle.roundtrips.proofs.RowsWalked.{values, Entry, walks_places, places_walk}
use Rattle.roundtrips.proofs.RelationWalks.{StationRelationFits, walks_station_relation, station_relation_walks}
use Rattle.roundtrips.proofs.VisitWalks.{visit_ok, said, VisitFits, visit_law}
use Rattle.roundtrips.proofs.OrderLaws.{before, visit_key, visits_chain, chain_visits, relation_key, relations_chain, chain_relations}

-- entries with their places, and without

abbrev pub set_out : {A : Type 0} → (A → List ℕ) → ℕ → List A → List (Placed A)
set_out numbers p xs = values numbers (λ p x. record { place = p; entry = x }) p xs

abbrev pub entries_of : {A : Type 0} → List (Placed A) → List A
entries_of vs = map (λ (v : Placed _). v.entry) vs

-- visits that a form can say
abbrev pub AllSaid : FileForm → List StationVisit → Type 0
AllSaid form vs = T (every (said form) vs)

-- in range and rising
pub record VisitsIn (vs : List StationVisit) : Type 0 where
  pub many : InRange 0 384 (length vs)
  pub good : T (every visit_ok vs)
  pub order : T (each_two (before visit_key) vs)

pub record RelationsIn (rs : List StationRelation) : Type 0 where
  pub many : InRange 0 96 (length rs)
  pub good : T (every station_relation_ok rs)
  pub order : T (each_two (before relation_key) rs)

relation_law : Entry station_relation_entry station_relation_numbers StationRelationFits
relation_law = record { walk = walks_station_relation; back = station_relation_walks }

walks_visits : (form : FileForm) (p : ℕ) (vs : List StationVisit) → VisitsIn vs → AllSaid form vs
    → walks (visits_format form (length vs)) p (flat_map (visit_numbers form) vs) (set_out (visit_numbers form) p vs)
unfolding visits_format visit_floor
walks_visits form p vs i u =
    walks_places (visit_entry form) (visit_numbers form) visit_key (VisitFits form) (visit_law form) vs [] p (visits_chain form vs i.good u i.order)

walks_relations : (p : ℕ) (rs : List StationRelation) → RelationsIn rs
    → walks (relations_format (length rs)) p (flat_map station_relation_numbers rs) (set_out station_relation_numbers p rs)
unfolding relations_format relation_floor
walks_relations p rs i =
    walks_places station_relation_entry station_relation_numbers station_relation_numbers StationRelationFits relation_law rs [] p (relations_chain rs i.good i.order)

-- the numbers of a file
abbrev pub file_numbers : FileForm → List StationVisit → List StationRelation → List ℕ
file_numbers form vs rs = length vs ∷ (flat_map (visit_numbers form) vs ++ (length rs ∷ flat_map station_relation_numbers rs))

-- all visits of a timetable, and all relations, as they are written
abbrev pub all_visits : Network → Timetable → List StationVisit
all_visits n m = flat_map (visits_at m) (stations_of n)

abbrev pub all_relations : Network → Timetable → List StationRelation
all_relations n m = flat_map (relations_at m) (stations_of n)

-- what they give, from a place on
abbrev pub file_entries : FileForm → ℕ → List StationVisit → List StationRelation → Entries
file_entries form p vs rs = record {
  visits = set_out (visit_numbers form) (p + width (length vs)) vs;
  relations = set_out station_relation_numbers (p + width (length vs) + span (flat_map (visit_numbers form) vs) + width (length rs)) rs;
}

pub walks_timetable : (form : FileForm) (p : ℕ) (vs : List StationVisit) (rs : List StationRelation) → VisitsIn vs → AllSaid form vs → RelationsIn rs
    → walks (timetable_format form) p (file_numbers form vs rs) (file_entries form p vs rs)
unfolding walks timetable_format
walks_timetable form p vs rs i u j = (
  i.many,
  walks_then (visits_format form (length vs)) (λ vs. field 0 96 (λ m. relations_format m and_then (λ rs. done (record { visits = vs; relations = rs }))))
      (p + width (length vs)) (flat_map (visit_numbers form) vs) (length rs ∷ flat_map station_relation_numbers rs) (set_out (visit_numbers form) (p + width (length vs)) vs) _
      (walks_visits form (p + width (length vs)) vs i u) (
        j.many,
        walks_made (λ rs. record { visits = set_out (visit_numbers form) (p + width (length vs)) vs; relations = rs }) (relations_format (length rs)) _
            (flat_map station_relation_numbers rs) _
            (walks_relations _ rs j),
      ),
)

visits_walk : (form : FileForm) (k p : ℕ) (ns : List ℕ) (vs : List (Placed StationVisit)) → walks (visits_format form k) p ns vs → InRange 0 384 k
    → (ns ≡ flat_map (visit_numbers form) (entries_of vs)) × VisitsIn (entries_of vs) × AllSaid form (entries_of vs) × (length (entries_of vs) ≡ k)
unfolding visits_format visit_floor
visits_walk form k p ns vs w r =
    let (x, c, l) = places_walk (visit_entry form) (visit_numbers form) visit_key (VisitFits form) (visit_law form) k [] p ns vs w in
    let (t, u, o) = chain_visits form (entries_of vs) c in
    let z : length (entries_of vs) ≡ k = length-map vs (λ v. v.entry) ∙ l in
    (x, record { many = rw z r; good = t; order = o }, u, z)

relations_walk : (k p : ℕ) (ns : List ℕ) (rs : List (Placed StationRelation)) → walks (relations_format k) p ns rs → InRange 0 96 k
    → (ns ≡ flat_map station_relation_numbers (entries_of rs)) × RelationsIn (entries_of rs) × (length (entries_of rs) ≡ k)
unfolding relations_format relation_floor
relations_walk k p ns rs w r =
    let (x, c, l) = places_walk station_relation_entry station_relation_numbers station_relation_numbers StationRelationFits relation_law k [] p ns rs w in
    let (t, o) = chain_relations (entries_of rs) c in
    let z : length (entries_of rs) ≡ k = length-map rs (λ v. v.entry) ∙ l in
    (x, record { many = rw z r; good = t; order = o }, z)

-- the numbers that entries are read from, and what the entries are
pub record Walked (form : FileForm) (ns : List ℕ) (vs : List StationVisit) (rs : List StationRelation) : Type 0 where
  pub numbers : ns ≡ file_numbers form vs rs
  pub visits : VisitsIn vs
  pub marks : AllSaid form vs
  pub relations : RelationsIn rs

pub timetable_walks : (form : FileForm) (p : ℕ) (ns : List ℕ) (x : Entries) → walks (timetable_format form) p ns x
    → Walked form ns (entries_of x.visits) (entries_of x.relations)
unfolding walks timetable_format
timetable_walks form p [] x w = absurd w
timetable_walks form p (k ∷ ns) x (a, w) =
    let s = then_walks (visits_format form k) (λ vs. field 0 96 (λ m. relations_format m and_then (λ rs. done (record { visits = vs; relations = rs })))) (p + width k) ns x w in
    let (e, i, t, l) = visits_walk form k (p + width k) s.before s.value s.first a in
    let (q, u, j) = later s.value (p + width k + span s.before) s.behind s.second in
    record {
      numbers = ap₂ (λ (k : ℕ) (l : List ℕ). k ∷ l) (sym l ∙ ap (λ (vs : List (Placed StationVisit)). length (entries_of vs)) q)
          (s.whole ∙ ap₂ ◌++◌ (e ∙ ap (λ (vs : List (Placed StationVisit)). flat_map (visit_numbers form) (entries_of vs)) q) u);
      visits = subst (λ (vs : List (Placed StationVisit)). VisitsIn (entries_of vs)) q i;
      marks = subst (λ (vs : List (Placed StationVisit)). AllSaid form (entries_of vs)) q t;
      relations = j;
    }
  where
    later : (vs : List (Placed StationVisit)) (p : ℕ) (ns : List ℕ)
        → walks (field 0 96 (λ m. relations_format m and_then (λ rs. done (record { visits = vs; relations = rs })))) p ns x
        → (vs ≡ x.visits) × (ns ≡ length (entries_of x.relations) ∷ flat_map station_relation_numbers (entries_of x.relations)) × RelationsIn (entries_of x.relations)
    later vs p [] w = absurd w
    later vs p (m ∷ ns) (b, w) =
        let (rs, v, e) = made_walks (λ rs. record { visits = vs; relations = rs }) (relations_format m) (p + width m) ns x w in
        let (y, j, l) = relations_walk m (p + width m) ns rs v b in
        rw (← e) (refl, ap₂ (λ (m : ℕ) (l : List ℕ). m ∷ l) (sym l) y, j)
