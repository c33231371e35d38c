-- A station's page of 512 bytes: 32 head, 24 visit records, 6 relation records of 16 bytes. Everything unused is zero,
-- so equal tables are equal bytes. Document 01, "Sheets and division": "the team fixes its layout in docs/, so that
-- equal timetables are equal bytes". Assumes nothing.
use Rattle.std.specs.Prelude.{ℕ, zero, suc, ◌*◌, ◌-◌, min, Bool, ◌&&◌, length, get_or, take, drop}
use mathlib.Core.List.{List, [], ◌∷◌, ◌++◌, map, flat_map}
use Rattle.base.specs.Lists.{same}
use Rattle.timetable.specs.Tables.{Entry, Table}
use Rattle.timetable.specs.Good.{table_good}
use Rattle.records.specs.Bytes.{zeros}
use Rattle.records.specs.Records.{encode_entry, decode_entry, encode_relation, decode_relation}
use Rattle.page.specs.Types.{Station, Relation, Network}

-- room for k records: those in use, then zeros
unfoldable pub slots : {A : Type 0} → (A → List ℕ) → ℕ → List A → List ℕ
slots encode k xs = flat_map encode xs ++ zeros (16 * (k - length xs))

-- byte 0 counts the visits, byte 1 the relations
unfoldable pub encode_page : Table → List ℕ
encode_page tab =
    length tab.visits ∷ length tab.relations
    ∷ (zeros 30 ++ (slots encode_entry 24 tab.visits ++ slots encode_relation 6 tab.relations))

-- the first k records of a part
unfoldable pub records_of : ℕ → List ℕ → List (List ℕ)
records_of zero b = []
records_of (suc k) b = take 16 b ∷ records_of k (drop 16 b)

-- the records that are counted, at most those that there is room for
unfoldable pub visit_records : List ℕ → List (List ℕ)
visit_records page = records_of (min (get_or page 0 0) 24) (drop 32 page)

unfoldable pub relation_records : List ℕ → List (List ℕ)
relation_records page = records_of (min (get_or page 1 0) 6) (drop 416 page)

unfoldable pub visits_of : List ℕ → List Entry
visits_of page = map decode_entry (visit_records page)

unfoldable pub relations_of : List ℕ → List Relation
relations_of page = map decode_relation (relation_records page)

unfoldable pub decode_page : List ℕ → Table
decode_page page = record { visits = visits_of page; relations = relations_of page }

-- "A good sheet is byte for byte that of its timetable, within the limits, in the layout's order, ..": of one station's
-- page
unfoldable pub good_page : Network → Station → List ℕ → Bool
good_page n s page = same page (encode_page (decode_page page)) && table_good n s (decode_page page)

-- The key ring of this module: `unfolding opened` opens every definition above.
unfoldable pub opened : Unit {0}
unfolding flat_map slots encode_page records_of visit_records relation_records visits_of relations_of decode_page good_page
opened = tt
