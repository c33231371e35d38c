-- Relation entries read part by part: trains one by one, and the fields before them. Assumes nothing.
use Prim.Native.Nat.{ℕ, suc, ◌+◌}
use mathlib.Core.Path.{◌≡◌, refl, sym, ◌∙◌, ap}
use mathlib.Core.Bool.{Bool, not}
use mathlib.Core.List.{List, [], ◌∷◌, map}
use lib.Dec.{eqb}
use lib.ListN.{get_or, get_or-map}
use Rattle.std.specs.Prelude.{if◌then◌else◌}
use Rattle.railway.specs.declared.sorts.Train.{Train}
use Rattle.railway.specs.declared.edit.StationRelation.{StationRelation}
use Rattle.railway.specs.declared.relation.Relation.{Relation}
use Rattle.timetable.specs.Formats.{done, accepted, refused, ◌and_then◌, field_at, behind, read, least, floor_after, compared}
use Rattle.timetable.specs.Tables.{packed}
use Rattle.timetable.specs.EditsFile.{trains_format, pair_of, group_of, relation_of, most_trains, trains_part, train_count_part, interval_part, relation_entry, station_relation_entry}
use Rattle.fields.specs.between.Answers.{padded}
use Rattle.fields.proofs.ReadLaws.{read_then, prefixed, prefixed_one}
use Rattle.fields.proofs.EntryLaws.{padded_at, field_on, field_stop, then_on, then_stop}

-- trains

abbrev pub least_train : Bool → ℕ → ℕ
least_train rise before = if rise then before + 1 else 1

module _ (rise : Bool) (before : ℕ) (floor file : List ℕ) (at : ℕ) where
  pub train_taken : (k t next : ℕ) → field_at (least (least_train rise before) floor) 9999 file at ≡ accepted t next
      → read (trains_format rise (suc k) before floor) file at ≡ prefixed (t ∷ []) (read (trains_format rise k t (floor_after t floor)) file next)
  unfolding trains_format compared read behind
  train_taken k t next e =
      field_on (least (least_train rise before) floor) 9999 (λ t. trains_format rise k t (floor_after t floor) and_then (λ ts. done (t ∷ ts))) file at t next e
      ∙ read_then (trains_format rise k t (floor_after t floor)) (λ ts. done (t ∷ ts)) file next
      ∙ prefixed_one t (read (trains_format rise k t (floor_after t floor)) file next)

  pub train_refused : (k j p : ℕ) → field_at (least (least_train rise before) floor) 9999 file at ≡ refused j p → read (trains_format rise (suc k) before floor) file at ≡ refused j p
  unfolding trains_format compared
  train_refused k j p e = field_stop (least (least_train rise before) floor) 9999 (λ t. trains_format rise k t (floor_after t floor) and_then (λ ts. done (t ∷ ts))) file at j p e

  pub trains_over : read (trains_format rise 0 before floor) file at ≡ accepted [] at
  unfolding trains_format read
  trains_over = refl

-- a relation from its numbers

abbrev as_train : ℕ → Train
as_train t = record { 0 = t }

pub group_padded : (ns : List ℕ) → group_of (padded 4 0 ns) ≡ group_of ns
unfolding group_of packed
group_padded ns = rw (at 0, at 1, at 2, at 3)
  where
    at : (i : ℕ) → get_or (map as_train (padded 4 0 ns)) i (record { 0 = 0 }) ≡ get_or (map as_train ns) i (record { 0 = 0 })
    at i =
        get_or-map as_train (padded 4 0 ns) i 0
        ∙ ap as_train (padded_at 4 ns i)
        ∙ sym (get_or-map as_train ns i 0)

pub group_places : (v : List ℕ) → group_of v ≡ record { a = record { 0 = get_or v 0 0 }; b = record { 0 = get_or v 1 0 }; c = record { 0 = get_or v 2 0 }; d = record { 0 = get_or v 3 0 } }
unfolding group_of packed
group_places v = rw (at 0, at 1, at 2, at 3)
  where
    at : (i : ℕ) → get_or (map as_train v) i (record { 0 = 0 }) ≡ record { 0 = get_or v i 0 }
    at i = get_or-map as_train v i 0

pub relation_padded : (kind i : ℕ) (ns : List ℕ) → relation_of kind i (padded 4 0 ns) ≡ relation_of kind i ns
unfolding relation_of pair_of
relation_padded kind i ns = rw (group_padded ns, padded_at 4 ns 0, padded_at 4 ns 1)

-- the fields before the trains

module _ (floor file : List ℕ) (at s a kind b i c k d : ℕ) where
  abbrev pub left : List ℕ
  left = floor_after k (floor_after i (floor_after kind (floor_after s floor)))

  abbrev whole : Relation → StationRelation
  whole r = record { station = record { 0 = s }; relation = r }

  behind_fields : field_at (least 1 floor) 16 file at ≡ accepted s a
      → field_at (least 1 (floor_after s floor)) 3 file a ≡ accepted kind b
      → field_at (least 0 (floor_after kind (floor_after s floor))) 240 file b ≡ accepted i c
      → field_at (least 2 (floor_after i (floor_after kind (floor_after s floor)))) (most_trains kind) file c ≡ accepted k d
      → read (station_relation_entry floor) file at
      ≡ read (trains_format (not (eqb kind 3)) k 0 left and_then (λ ts. done (relation_of kind i ts)) and_then (λ r. done (whole r))) file d
  unfolding station_relation_entry relation_entry interval_part train_count_part trains_part compared ◌and_then◌ read behind
  behind_fields e f g h = rw (e, f, g, h)

  module _ (e : field_at (least 1 floor) 16 file at ≡ accepted s a) (f : field_at (least 1 (floor_after s floor)) 3 file a ≡ accepted kind b)
      (g : field_at (least 0 (floor_after kind (floor_after s floor))) 240 file b ≡ accepted i c)
      (h : field_at (least 2 (floor_after i (floor_after kind (floor_after s floor)))) (most_trains kind) file c ≡ accepted k d) where
    pub trains_stop : (j p : ℕ) → read (trains_format (not (eqb kind 3)) k 0 left) file d ≡ refused j p → read (station_relation_entry floor) file at ≡ refused j p
    trains_stop j p q =
        behind_fields e f g h
        ∙ then_stop _ (λ r. done (whole r)) file d j p (then_stop (trains_format (not (eqb kind 3)) k 0 left) (λ ts. done (relation_of kind i ts)) file d j p q)

    pub trains_some : (ts : List ℕ) (next : ℕ) → read (trains_format (not (eqb kind 3)) k 0 left) file d ≡ accepted ts next
        → read (station_relation_entry floor) file at ≡ accepted (whole (relation_of kind i ts)) next
    unfolding read
    trains_some ts next q =
        behind_fields e f g h
        ∙ then_on _ (λ r. done (whole r)) file d (relation_of kind i ts) next
        (then_on (trains_format (not (eqb kind 3)) k 0 left) (λ ts. done (relation_of kind i ts)) file d ts next q)
