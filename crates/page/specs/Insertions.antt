-- Putting a record in among those of a station. Document 02, W4: "move only the records that come after the new one: the
-- step that makes room is lent the sheet only from the new record's place on, and answers how many records it moved,
-- exactly those after the new one in its table. Sheets and answers stay as before." The proofs are in
-- proofs/InsertionsHold; nothing here is proved. Assumes nothing.
use Rattle.std.specs.Prelude.{ℕ, ◌+◌, ◌*◌, ◌-◌, ◌≤◌, ◌<◌, ◌≡◌, Bool, false, List, ◌++◌, T, ltb, length, get_or, set, take, drop}
use Rattle.base.specs.Lists.{count, each_two}
use Rattle.railway.specs.Relations.{precedes}
use Rattle.timetable.specs.Tables.{Entry, Table, add_visit, has_relation, add_relation}
use Rattle.records.specs.Bytes.{fronted, records_behind}
use Rattle.page.specs.Types.{Train, Visit, Relation}
use Rattle.page.specs.Pages.{encode_page}
use Rattle.page.specs.between.Changes.{with_record, page_add_visit, moved_by_visit, page_add_relation, moved_by_relation}

-- n records stand from byte `from` on, and a new one comes to index i: its place, and how many bytes the step is lent,
-- up to behind the first place that is free
abbrev pub place : ℕ → ℕ → ℕ
place from i = from + 16 * i

abbrev pub size : ℕ → ℕ → ℕ → ℕ
size from i n = place from n + 16 - place from i

abbrev pub lent : ℕ → ℕ → ℕ → List ℕ → List ℕ
lent from i n page = take (size from i n) (drop (place from i) page)

pub record StepAlone (h from i n : ℕ) (r page : List ℕ) : Type 0 where
  -- the page with the record put in is what the step leaves of its part, between the bytes before it and those behind
  -- it as they were, and the count in byte h
  pub lent_alone : with_record h from i r page
      ≡ set (take (place from i) page ++ (fronted r (lent from i n page) ++ drop (size from i n) (drop (place from i) page))) h (n + 1)
  -- what the step answers of its part is how many records stood from there on
  pub moved : records_behind (lent from i n page) ≡ n - i

-- of any bytes that count n records and have room for one more
abbrev pub StepsAlone : Type 0
StepsAlone = (h from i n : ℕ) (r page : List ℕ) → n ≡ get_or page h 0 → length r ≡ 16 → i ≤ n → place from n + 16 ≤ length page → StepAlone h from i n r page

-- of the page of a table in its order, within the limits, with room for one more: those after the new one have moved,
-- and the page is that of the table with it
abbrev pub by_train : Entry → Entry → Bool
by_train x y = ltb x.train.0 y.train.0

pub record VisitPut (t : Train) (v : Visit) (tab : Table) : Type 0 where
  pub moved : moved_by_visit t (encode_page tab) ≡ count (λ e. ltb t.0 e.train.0) tab.visits
  pub page : page_add_visit t v (encode_page tab) ≡ encode_page (add_visit t v tab)

abbrev pub VisitsPut : Type 0
VisitsPut = (t : Train) (v : Visit) (tab : Table) → length tab.visits < 24 → length tab.relations ≤ 6 → T (each_two by_train tab.visits) → VisitPut t v tab

pub record RelationPut (q : Relation) (tab : Table) : Type 0 where
  pub moved : moved_by_relation q (encode_page tab) ≡ count (precedes q) tab.relations
  pub page : page_add_relation q (encode_page tab) ≡ encode_page (add_relation q tab)

abbrev pub RelationsPut : Type 0
RelationsPut =
    (q : Relation) (tab : Table) → length tab.visits ≤ 24 → length tab.relations < 6 → T (each_two precedes tab.relations) → has_relation q tab ≡ false
    → RelationPut q tab
