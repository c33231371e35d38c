-- What the functions on a page answer and do to its bytes, whatever they are. A record is put in, taken out or written
-- over on a row of slots, the visits' at byte 32 or the relations' at byte 416, and the count in byte 0 or 1 follows.
-- What is no page of 512 bytes, or counts more records than there is room for, is left as it was. On the page of a good
-- table they do what the functions on tables do (proofs/ChangeLaws.antt). Assumes nothing.
use Rattle.std.specs.Prelude.{ℕ, suc, ◌+◌, ◌*◌, ◌-◌, min, Bool, ◌&&◌, List, [], ◌∷◌, ◌++◌, ltb, leb, eqb, length, get_or, set, take, drop}
use Rattle.std.specs.Prelude.{Option, Some, None}
use Rattle.std.specs.Prelude.{if◌then◌else◌}
use Rattle.railway.specs.Relations.{precedes, same_relation}
use Rattle.timetable.specs.Tables.{Table, empty, lose_all}
use Rattle.records.specs.Bytes.{word, splice, closed}
use Rattle.records.specs.Records.{visit_bytes, encode_relation, decode_relation}
use Rattle.page.specs.Types.{Train, Visit, Relation}
use Rattle.page.specs.Pages.{slots, records_of, visit_records, relation_records, relations_of, decode_page}

-- the table that a page holds; none where it is no page
unfoldable pub table_in : List ℕ → Table
table_in page = if eqb (length page) 512 then decode_page page else empty

-- where a test first holds among some records; their number where nowhere
unfoldable pub index_of : (List ℕ → Bool) → List (List ℕ) → ℕ
index_of f [] = 0
index_of f (r ∷ rs) = if f r then 0 else suc (index_of f rs)

-- the index where one was found among n
unfoldable pub found : ℕ → ℕ → Option ℕ
found i n = if ltb i n then Some i else None

-- on a part with n records in use

-- the record r is put in at index i, those from i on move one place on
unfoldable pub put_in : ℕ → ℕ → List ℕ → List ℕ → List ℕ
put_in n i r b = splice (16 * i) (r ++ take (16 * (n - i)) (drop (16 * i) b)) b

-- the record at index i is taken out, those behind it move one place up, the last place becomes zeros
unfoldable pub take_out : ℕ → ℕ → List ℕ → List ℕ
take_out n i b = splice (16 * i) (closed (take (16 * (n - i)) (drop (16 * i) b))) b

-- on a page: the slots from byte `from` on, its count in byte h

unfoldable pub with_record : ℕ → ℕ → ℕ → List ℕ → List ℕ → List ℕ
with_record h from i r page = set (take from page ++ put_in (get_or page h 0) i r (drop from page)) h (get_or page h 0 + 1)

unfoldable pub without_record : ℕ → ℕ → ℕ → List ℕ → List ℕ
without_record h from i page = set (take from page ++ take_out (get_or page h 0) i (drop from page)) h (get_or page h 0 - 1)

-- a page that counts at most k records in byte h
unfoldable pub counts_to : ℕ → ℕ → List ℕ → Bool
counts_to h k page = eqb (length page) 512 && leb (get_or page h 0) k

-- visits

-- the first visit record of the train, and the first of a train above it
unfoldable pub train_index : Train → List ℕ → ℕ
train_index t page = index_of (λ r. eqb (word r 0) t.0) (visit_records page)

unfoldable pub train_place : Train → List ℕ → ℕ
train_place t page = index_of (λ r. ltb t.0 (word r 0)) (visit_records page)

unfoldable pub train_found : Train → List ℕ → Option ℕ
train_found t page = if eqb (length page) 512 then found (train_index t page) (min (get_or page 0 0) 24) else None

unfoldable pub page_add_visit : Train → Visit → List ℕ → List ℕ
page_add_visit t v page = if counts_to 0 23 page then with_record 0 32 (train_place t page) (visit_bytes t v) page else page

-- "answers how many records it moved, exactly those after the new one"
unfoldable pub moved_by_visit : Train → List ℕ → ℕ
moved_by_visit t page = if counts_to 0 23 page then get_or page 0 0 - train_place t page else 0

-- the train's visit written over, if it is there
unfoldable pub page_write_visit : Train → Visit → List ℕ → List ℕ
page_write_visit t v page =
    if counts_to 0 24 page && ltb (train_index t page) (get_or page 0 0)
    then splice (32 + 16 * train_index t page) (visit_bytes t v) page
    else page

unfoldable pub page_remove_visit : Train → List ℕ → List ℕ
page_remove_visit t page =
    if counts_to 0 24 page && ltb (train_index t page) (get_or page 0 0)
    then without_record 0 32 (train_index t page) page
    else page

-- relations

unfoldable pub relation_index : Relation → List ℕ → ℕ
relation_index q page = index_of (λ r. same_relation q (decode_relation r)) (relation_records page)

unfoldable pub relation_place : Relation → List ℕ → ℕ
relation_place q page = index_of (λ r. precedes q (decode_relation r)) (relation_records page)

unfoldable pub page_add_relation : Relation → List ℕ → List ℕ
page_add_relation q page = if counts_to 1 5 page then with_record 1 416 (relation_place q page) (encode_relation q) page else page

unfoldable pub moved_by_relation : Relation → List ℕ → ℕ
moved_by_relation q page = if counts_to 1 5 page then get_or page 1 0 - relation_place q page else 0

unfoldable pub page_remove_relation : Relation → List ℕ → List ℕ
page_remove_relation q page =
    if counts_to 1 6 page && ltb (relation_index q page) (get_or page 1 0)
    then without_record 1 416 (relation_index q page) page
    else page

-- on a part with n relation records in order: the relation put in its place, where one that is there already stays one,
-- and how many there are then

unfoldable pub is_slotted : Relation → ℕ → List ℕ → Bool
is_slotted q n b = ltb (index_of (λ r. same_relation q (decode_relation r)) (records_of n b)) n

unfoldable pub slotted : Relation → ℕ → List ℕ → List ℕ
slotted q n b =
    if is_slotted q n b then b
    else put_in n (index_of (λ r. precedes q (decode_relation r)) (records_of n b)) (encode_relation q) b

unfoldable pub slotted_count : Relation → ℕ → List ℕ → ℕ
slotted_count q n b = if is_slotted q n b then n else (n + 1)

-- the same of what is left of a relation
unfoldable pub slotted_left : Option Relation → ℕ → List ℕ → List ℕ
slotted_left None n b = b
slotted_left (Some q) n b = slotted q n b

unfoldable pub left_count : Option Relation → ℕ → List ℕ → ℕ
left_count None n b = n
left_count (Some q) n b = slotted_count q n b

-- the relations anew, the train taken out of them
unfoldable pub page_lose_train : Train → List ℕ → List ℕ
page_lose_train t page =
    if counts_to 1 6 page
    then set (take 416 page ++ slots encode_relation 6 (lose_all t (relations_of page))) 1 (length (lose_all t (relations_of page)))
    else page

-- The key ring of this module: `unfolding opened` opens every definition above.
unfoldable pub opened : Unit {0}
unfolding table_in index_of found train_found put_in take_out with_record without_record counts_to train_index train_place page_add_visit moved_by_visit page_write_visit
    page_remove_visit relation_index relation_place page_add_relation moved_by_relation page_remove_relation is_slotted slotted slotted_count slotted_left left_count page_lose_train
opened = tt
