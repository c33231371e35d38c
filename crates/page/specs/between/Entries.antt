-- The entries and relations of a page by their index: the bytes of their records, and what these are read as. Assumes
-- nothing.
use Rattle.std.specs.Prelude.{ℕ, ◌+◌, ◌*◌, List, [], ltb, length, get_or, take, drop}
use Rattle.std.specs.Prelude.{if◌then◌else◌}
use Rattle.railway.specs.declared.relation.Relation.{Relation}
use Rattle.timetable.specs.Tables.{Entry}
use Rattle.records.specs.Records.{decode_entry, decode_relation}
use Rattle.page.specs.between.Changes.{table_in}

-- the records, empty past the last
unfoldable pub entry_bytes : ℕ → List ℕ → List ℕ
entry_bytes i page = if ltb i (length (table_in page).visits) then take 16 (drop (32 + 16 * i) page) else []

unfoldable pub relation_bytes : ℕ → List ℕ → List ℕ
relation_bytes i page = if ltb i (length (table_in page).relations) then take 16 (drop (416 + 16 * i) page) else []

-- the entry and the relation; past the last what an empty record is read as
unfoldable pub entry_at : ℕ → List ℕ → Entry
entry_at i page = get_or (table_in page).visits i (decode_entry [])

unfoldable pub relation_at : ℕ → List ℕ → Relation
relation_at i page = get_or (table_in page).relations i (decode_relation [])

-- The key ring of this module: `unfolding opened` opens every definition above.
unfoldable pub opened : Unit {0}
unfolding entry_bytes relation_bytes entry_at relation_at
opened = tt
