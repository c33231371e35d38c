-- On the page of a table the functions on pages do what the functions on tables do: a record is found where the list
-- has it, and the slots with it put in, taken out or written over is the slots of the list so changed. Assumes nothing.
use Prim.Native.Nat.{ℕ, suc, ◌+◌, ◌*◌, ◌-◌, ◌≤◌, ◌<◌, min}
use mathlib.Core.Path.{◌≡◌, refl, sym, ap, ◌∙◌}
use mathlib.Core.Bool.{Bool, true, false, not, ◌||◌}
use mathlib.Core.List.{List, [], ◌∷◌, ◌++◌, map, append_assoc, append-nil}
use native.Mathlib.Omega.{arith}
use lib.Dec.{T, ltb, eqb, ltb→lt, lt→ltb}
use lib.ListN.{length, get_or, set, take, drop, length-append, length-drop, length-map}
use lib.Seq.{take_at, drop_at, length-take-le}
use borrow.Author.Tests.{ltb-true, ltb-false, eqb-true, ne_eqb}
use Rattle.base.specs.Choice.{◌if◌else◌}
use Rattle.std.specs.Prelude.{if◌then◌else◌}
use Rattle.base.specs.Lists.{any, every, keep, count, each_two, same}
use Rattle.base.proofs.Counts.{keep_every}
use Rattle.base.proofs.Lengths.{length_keep}
use Rattle.base.proofs.Sorted.{two_head, two_tail, smaller, same_equal, below_itself}
use Rattle.base.proofs.Tests.{T_false, true_T, by_value, every_head, every_tail, every_weaker}
use Rattle.railway.specs.Ranges.{same_train}
use Rattle.railway.specs.Relations.{key, precedes, same_relation}
use Rattle.timetable.specs.Tables.{Entry, Table, enter, add_visit, change_entry, change_visit, has_relation, insert, add_relation, drop_relation, lose_all}
use Rattle.timetable.proofs.TableLaws.{number, precedes_across}
use Rattle.records.specs.Bytes.{zeros, word, splice}
use Rattle.records.specs.Records.{named, visit_bytes, encode_entry, decode_entry, encode_relation, decode_relation}
use Rattle.records.proofs.RecordLaws.{entry_length, relation_length, word_back, relation_back, entry_back}
use Rattle.page.specs.Types.{Train, Visit, Relation}
use Rattle.page.specs.Pages.{slots, encode_page, records_of, visit_records, relation_records, visits_of, relations_of, decode_page}
use Rattle.page.specs.between.Changes.{table_in, index_of, put_in, take_out, with_record, without_record, counts_to, train_index, train_place, page_add_visit}
use Rattle.page.specs.between.Changes.{moved_by_visit, page_write_visit, page_remove_visit, relation_index, relation_place, page_add_relation, moved_by_relation, page_remove_relation}
use Rattle.page.specs.between.Changes.{page_lose_train}
use Rattle.page.proofs.SlotLaws.{index_most, table_of_page}
use Rattle.page.proofs.RecordsPut.{splice_past, counts_few}
use Rattle.page.proofs.FlatLaws.{slots_length, records_slots, put_slots, take_slots, write_slots, keep_cut, change_cut, change_none, none_passes}

-- within the limits of a page
pub record Fitting (tab : Table) : Type 0 where
  pub visits_fit : length tab.visits ≤ 24
  pub relations_fit : length tab.relations ≤ 6

-- lists with an element more or less

cut_length : {A : Type 0} (xs : List A) (x : A) (i : ℕ) → i ≤ length xs → length xs + 1 ≡ length (take i xs ++ (x ∷ drop i xs))
cut_length xs x i h = sym (length-append (take i xs) (x ∷ drop i xs) ∙ omega (arith, length-take-le i xs h, length-drop i xs))

less_length : {A : Type 0} (xs : List A) (i : ℕ) → i < length xs → length xs - 1 ≡ length (take i xs ++ drop (suc i) xs)
less_length xs i h = sym (length-append (take i xs) (drop (suc i) xs) ∙ omega (arith, length-take-le i xs (omega arith), length-drop (suc i) xs))

same_length : {A : Type 0} (xs : List A) (x : A) (i : ℕ) → i < length xs → length xs ≡ length (take i xs ++ (x ∷ drop (suc i) xs))
same_length xs x i h = sym (length-append (take i xs) (x ∷ drop (suc i) xs) ∙ omega (arith, length-take-le i xs (omega arith), length-drop (suc i) xs))

-- the page of a table

head_of : Table → List ℕ
head_of tab = length tab.visits ∷ length tab.relations ∷ zeros 30

module _ (tab : Table) where
  visits_count : get_or (encode_page tab) 0 0 ≡ length tab.visits
  unfolding encode_page
  visits_count = refl

  relations_count : get_or (encode_page tab) 1 0 ≡ length tab.relations
  unfolding encode_page
  relations_count = refl

  -- cut before the visits, and before the relations
  visits_form : encode_page tab ≡ head_of tab ++ (slots encode_entry 24 tab.visits ++ slots encode_relation 6 tab.relations)
  unfolding encode_page head_of
  visits_form = refl

  relations_form : encode_page tab ≡ (head_of tab ++ slots encode_entry 24 tab.visits) ++ (slots encode_relation 6 tab.relations ++ [])
  relations_form = visits_form ∙ rw (append-nil (slots encode_relation 6 tab.relations)) (sym (append_assoc (head_of tab) (slots encode_entry 24 tab.visits) (slots encode_relation 6 tab.relations)))

  visits_behind : drop 32 (encode_page tab) ≡ slots encode_entry 24 tab.visits ++ slots encode_relation 6 tab.relations
  unfolding head_of
  visits_behind = rw visits_form (drop_at (head_of tab) (slots encode_entry 24 tab.visits ++ slots encode_relation 6 tab.relations) 32 refl)

  visits_front : take 32 (encode_page tab) ≡ head_of tab
  unfolding head_of
  visits_front = rw visits_form (take_at (head_of tab) (slots encode_entry 24 tab.visits ++ slots encode_relation 6 tab.relations) 32 refl)

  relations_form_of : (es : List Entry) (rs : List Relation) → encode_page (record { visits = es; relations = rs })
      ≡ (length es ∷ length rs ∷ (zeros 30 ++ slots encode_entry 24 es)) ++ (slots encode_relation 6 rs ++ [])
  unfolding encode_page
  relations_form_of es rs =
      rw (append-nil (slots encode_relation 6 rs)) (sym (append_assoc (length es ∷ length rs ∷ zeros 30) (slots encode_entry 24 es) (slots encode_relation 6 rs)))

  module _ (fit : Fitting tab) where
    front_length : length (head_of tab ++ slots encode_entry 24 tab.visits) ≡ 416
    unfolding head_of
    front_length =
        length-append (head_of tab) (slots encode_entry 24 tab.visits)
        ∙ omega (arith, slots_length encode_entry entry_length 24 tab.visits fit.visits_fit)

    relations_behind : drop 416 (encode_page tab) ≡ slots encode_relation 6 tab.relations ++ []
    relations_behind = rw relations_form (drop_at (head_of tab ++ slots encode_entry 24 tab.visits) (slots encode_relation 6 tab.relations ++ []) 416 front_length)

    relations_front : take 416 (encode_page tab) ≡ head_of tab ++ slots encode_entry 24 tab.visits
    relations_front = rw relations_form (take_at (head_of tab ++ slots encode_entry 24 tab.visits) (slots encode_relation 6 tab.relations ++ []) 416 front_length)

    pub page_length : length (encode_page tab) ≡ 512
    page_length =
        ap length relations_form
        ∙ length-append (head_of tab ++ slots encode_entry 24 tab.visits) (slots encode_relation 6 tab.relations ++ [])
        ∙ ap (λ (b : List ℕ). length (head_of tab ++ slots encode_entry 24 tab.visits) + length b) (append-nil (slots encode_relation 6 tab.relations))
        ∙ omega (arith, front_length, slots_length encode_relation relation_length 6 tab.relations fit.relations_fit)

    pub visit_records_back : visit_records (encode_page tab) ≡ map encode_entry tab.visits
    unfolding visit_records encode_page
    visit_records_back =
        let n : min (length tab.visits) 24 ≡ length tab.visits = omega (arith, fit.visits_fit) in
        (λ i. records_of (n i) (visits_behind i)) ∙ records_slots encode_entry entry_length 24 tab.visits (slots encode_relation 6 tab.relations)

    pub relation_records_back : relation_records (encode_page tab) ≡ map encode_relation tab.relations
    unfolding relation_records encode_page
    relation_records_back =
        let n : min (length tab.relations) 6 ≡ length tab.relations = omega (arith, fit.relations_fit) in
        (λ i. records_of (n i) (relations_behind i)) ∙ records_slots encode_relation relation_length 6 tab.relations []

    -- with one record more, one less, and one changed, on each slots

    pub page_with_visit : (e : Entry) (i : ℕ) (es : List Entry) → i ≤ length tab.visits → length tab.visits < 24
        → es ≡ take i tab.visits ++ (e ∷ drop i tab.visits) → with_record 0 32 i (encode_entry e) (encode_page tab) ≡ encode_page (record { visits = es; relations = tab.relations })
    unfolding with_record encode_page head_of
    page_with_visit e i es h room is =
        let rest = slots encode_relation 6 tab.relations in
        let put = ap (put_in (length tab.visits) i (encode_entry e)) visits_behind ∙ put_slots encode_entry entry_length 24 tab.visits e i rest h room in
        let many : length tab.visits + 1 ≡ length es = cut_length tab.visits e i h ∙ sym (ap length is) in
        (λ k. set (visits_front k ++ put k) 0 (many k)) ∙ ap (λ (l : List Entry). length es ∷ length tab.relations ∷ (zeros 30 ++ (slots encode_entry 24 l ++ rest))) (sym is)

    pub page_without_visit : (i : ℕ) (es : List Entry) → i < length tab.visits → es ≡ take i tab.visits ++ drop (suc i) tab.visits
        → without_record 0 32 i (encode_page tab) ≡ encode_page (record { visits = es; relations = tab.relations })
    unfolding without_record encode_page head_of
    page_without_visit i es h is =
        let rest = slots encode_relation 6 tab.relations in
        let out = ap (take_out (length tab.visits) i) visits_behind ∙ take_slots encode_entry entry_length 24 tab.visits i rest h fit.visits_fit in
        let many : length tab.visits - 1 ≡ length es = less_length tab.visits i h ∙ sym (ap length is) in
        (λ k. set (visits_front k ++ out k) 0 (many k)) ∙ ap (λ (l : List Entry). length es ∷ length tab.relations ∷ (zeros 30 ++ (slots encode_entry 24 l ++ rest))) (sym is)

    pub page_over_visit : (e : Entry) (i : ℕ) (es : List Entry) → i < length tab.visits → es ≡ take i tab.visits ++ (e ∷ drop (suc i) tab.visits)
        → splice (32 + 16 * i) (encode_entry e) (encode_page tab) ≡ encode_page (record { visits = es; relations = tab.relations })
    unfolding encode_page head_of
    page_over_visit e i es h is =
        let rest = slots encode_relation 6 tab.relations in
        let over = ap (splice (16 * i) (encode_entry e)) visits_behind ∙ write_slots encode_entry entry_length 24 tab.visits e i rest h in
        let many : length tab.visits ≡ length es = same_length tab.visits e i h ∙ sym (ap length is) in
        sym (splice_past (encode_page tab) (encode_entry e) 32 (16 * i))
        ∙ (λ k. visits_front k ++ over k)
        ∙ (λ k. many k ∷ length tab.relations ∷ (zeros 30 ++ (slots encode_entry 24 (sym is k) ++ rest)))

    pub page_with_relation : (q : Relation) (i : ℕ) (rs : List Relation) → i ≤ length tab.relations → length tab.relations < 6
        → rs ≡ take i tab.relations ++ (q ∷ drop i tab.relations) → with_record 1 416 i (encode_relation q) (encode_page tab) ≡ encode_page (record { visits = tab.visits; relations = rs })
    unfolding with_record encode_page head_of
    page_with_relation q i rs h room is =
        let put = ap (put_in (length tab.relations) i (encode_relation q)) relations_behind ∙ put_slots encode_relation relation_length 6 tab.relations q i [] h room in
        let many : length tab.relations + 1 ≡ length rs = cut_length tab.relations q i h ∙ sym (ap length is) in
        (λ k. set (relations_front k ++ put k) 1 (many k))
        ∙ ap (λ (l : List Relation). (length tab.visits ∷ length rs ∷ (zeros 30 ++ slots encode_entry 24 tab.visits)) ++ (slots encode_relation 6 l ++ [])) (sym is)
        ∙ sym (relations_form_of tab.visits rs)

    pub page_without_relation : (i : ℕ) (rs : List Relation) → i < length tab.relations → rs ≡ take i tab.relations ++ drop (suc i) tab.relations
        → without_record 1 416 i (encode_page tab) ≡ encode_page (record { visits = tab.visits; relations = rs })
    unfolding without_record encode_page head_of
    page_without_relation i rs h is =
        let out = ap (take_out (length tab.relations) i) relations_behind ∙ take_slots encode_relation relation_length 6 tab.relations i [] h fit.relations_fit in
        let many : length tab.relations - 1 ≡ length rs = less_length tab.relations i h ∙ sym (ap length is) in
        (λ k. set (relations_front k ++ out k) 1 (many k))
        ∙ ap (λ (l : List Relation). (length tab.visits ∷ length rs ∷ (zeros 30 ++ slots encode_entry 24 tab.visits)) ++ (slots encode_relation 6 l ++ [])) (sym is)
        ∙ sym (relations_form_of tab.visits rs)

-- visits

-- a record's number is its train's
entry_number : (e : Entry) → word (encode_entry e) 0 ≡ e.train.0
unfolding encode_entry visit_bytes
entry_number e = word_back e.train.0

-- the entry goes where the first above it stands
enter_cut : (e : Entry) (es : List Entry) → let i = index_of (λ b. ltb e.train.0 (word b 0)) (map encode_entry es) in enter e es ≡ take i es ++ (e ∷ drop i es)
unfolding enter index_of
enter_cut e [] = refl
enter_cut e (x ∷ xs) = rw (entry_number x) (go (ltb e.train.0 x.train.0) (enter_cut e xs))
  where
    go : (b : Bool) → let i = index_of (λ r. ltb e.train.0 (word r 0)) (map encode_entry xs) in enter e xs ≡ take i xs ++ (e ∷ drop i xs)
        → (if b then e ∷ x ∷ xs else (x ∷ enter e xs)) ≡ take (if b then 0 else suc i) (x ∷ xs) ++ (e ∷ drop (if b then 0 else suc i) (x ∷ xs))
    go true ih = refl
    go false ih = ap (λ r. x ∷ r) ih

-- in a list in order, those from the first that passes a test on are all that pass it, if what stands behind one that
-- passes does too
module _ {A : Type 0} (encoded : A → List ℕ) (f : List ℕ → Bool) (g : A → Bool) (agrees : (x : A) → f (encoded x) ≡ g x)
    (before : A → A → Bool) (up : (x y : A) → g x ≡ true → T (before x y) → T (g y)) where
  passing_behind : (xs : List A) → T (each_two before xs) → length xs - index_of f (map encoded xs) ≡ count g xs
  unfolding index_of count
  passing_behind [] o = refl
  passing_behind (x ∷ xs) o = rw (agrees x) (go (g x) refl (passing_behind xs (two_tail before x xs o)))
    where
      later : g x ≡ true → count g xs ≡ length xs
      later e = sym (length_keep g xs) ∙ ap length (keep_every g xs (every_weaker (before x) g (λ y l. up x y e l) xs (two_head before x xs o)))

      go : (b : Bool) → g x ≡ b → length xs - index_of f (map encoded xs) ≡ count g xs
          → suc (length xs) - (if b then 0 else suc (index_of f (map encoded xs))) ≡ (1 if b else 0) + count g xs
      go true e ih = omega (arith, later e)
      go false e ih = omega (arith, ih)

-- visits above a train
above_count : (t : Train) (es : List Entry) → T (each_two (smaller number) es)
    → length es - index_of (λ b. ltb t.0 (word b 0)) (map encode_entry es) ≡ count (λ e. ltb t.0 (number e)) es
above_count t =
    passing_behind encode_entry (λ b. ltb t.0 (word b 0)) (λ e. ltb t.0 (number e)) (λ e. ap (λ (n : ℕ). ltb t.0 n) (entry_number e)) (smaller number)
    (λ x y e l. lt→ltb t.0 (number y) (omega (arith, ltb-true t.0 (number x) e, ltb→lt (number x) (number y) l)))

module _ (t : Train) (tab : Table) (fit : Fitting tab) where
  page_place : train_place t (encode_page tab) ≡ index_of (λ b. ltb t.0 (word b 0)) (map encode_entry tab.visits)
  unfolding train_place
  page_place = ap (index_of (λ b. ltb t.0 (word b 0))) (visit_records_back tab fit)

  page_index : train_index t (encode_page tab) ≡ index_of (λ b. eqb (word b 0) t.0) (map encode_entry tab.visits)
  unfolding train_index
  page_index = ap (index_of (λ b. eqb (word b 0) t.0)) (visit_records_back tab fit)

  -- adding
  module _ (v : Visit) (room : length tab.visits < 24) where
    few : counts_to 0 23 (encode_page tab) ≡ true
    few = counts_few 0 23 (encode_page tab) (length tab.visits) (page_length tab fit) (sym (visits_count tab)) (omega arith)

    at : ℕ
    at = index_of (λ b. ltb t.0 (word b 0)) (map encode_entry tab.visits)

    pub add_visit_page : page_add_visit t v (encode_page tab) ≡ encode_page (add_visit t v tab)
    unfolding page_add_visit add_visit encode_entry at
    add_visit_page =
        let e : Entry = record { train = t; visit = v } in
        let inside : at ≤ length tab.visits = omega (arith, index_most (λ b. ltb t.0 (word b 0)) (map encode_entry tab.visits), length-map tab.visits encode_entry) in
        rw (few, page_place) (page_with_visit tab fit e at (enter e tab.visits) inside room (enter_cut e tab.visits))

    -- "answers how many records it moved, exactly those after the new one"
    pub moved_visit_page : T (each_two (smaller number) tab.visits) → moved_by_visit t (encode_page tab) ≡ count (λ e. ltb t.0 (number e)) tab.visits
    unfolding moved_by_visit
    moved_visit_page o = rw (few, page_place, visits_count tab) (above_count t tab.visits o)

  -- changing and removing: in a list in order a train stands once
  mine : Entry → Bool
  mine e = same_train e.train t

  agree : (e : Entry) → eqb (word (encode_entry e) 0) t.0 ≡ mine e
  unfolding mine
  agree e = ap (λ (n : ℕ). eqb n t.0) (entry_number e)

  once : (x y : Entry) → mine x ≡ true → T (smaller number x y) → mine y ≡ false
  unfolding mine
  once x y e o = ne_eqb (number y) t.0 (λ q. omega (arith, eqb-true (number x) t.0 e, ltb→lt (number x) (number y) o))

  spot : ℕ
  spot = index_of (λ b. eqb (word b 0) t.0) (map encode_entry tab.visits)

  counted : counts_to 0 24 (encode_page tab) ≡ true
  counted = counts_few 0 24 (encode_page tab) (length tab.visits) (page_length tab fit) (sym (visits_count tab)) fit.visits_fit

  module _ (order : T (each_two (smaller number) tab.visits)) where
    pub write_visit_page : (v : Visit) → page_write_visit t v (encode_page tab) ≡ encode_page (change_visit t (λ w. v) tab)
    unfolding page_write_visit change_visit change_entry encode_entry mine spot
    write_visit_page v =
        let new : Entry → Entry = λ e. record { train = e.train; visit = v } in
        let e : Entry = record { train = t; visit = v } in
        let f : List ℕ → Bool = λ b. eqb (word b 0) t.0 in
        by_value (ltb spot (length tab.visits))
        (λ q. rw (counted, page_index, visits_count tab, q)
        (page_over_visit tab fit e spot (map (change_entry t (λ w. v)) tab.visits) (ltb-true spot (length tab.visits) q)
        (change_cut encode_entry f mine agree (smaller number) once new e (λ x s k. record { train = record { 0 = eqb-true (number x) t.0 s k }; visit = v }) tab.visits order
        (ltb-true spot (length tab.visits) q))))
        (λ q. rw (counted, page_index, visits_count tab, q)
        (ap (λ (l : List Entry). encode_page (record { visits = l; relations = tab.relations }))
        (sym (change_none mine new tab.visits (none_passes encode_entry f mine agree tab.visits (ltb-false spot (length tab.visits) q))))))

    pub remove_visit_page : page_remove_visit t (encode_page tab)
        ≡ encode_page (record { visits = keep (λ e. not (same_train e.train t)) tab.visits; relations = tab.relations })
    unfolding page_remove_visit mine spot
    remove_visit_page =
        let f : List ℕ → Bool = λ b. eqb (word b 0) t.0 in
        by_value (ltb spot (length tab.visits))
        (λ q. rw (counted, page_index, visits_count tab, q)
        (page_without_visit tab fit spot (keep (λ e. not (mine e)) tab.visits) (ltb-true spot (length tab.visits) q)
        (keep_cut encode_entry f mine agree (smaller number) once tab.visits order (ltb-true spot (length tab.visits) q))))
        (λ q. rw (counted, page_index, visits_count tab, q)
        (ap (λ (l : List Entry). encode_page (record { visits = l; relations = tab.relations }))
        (sym (keep_every (λ e. not (mine e)) tab.visits (none_passes encode_entry f mine agree tab.visits (ltb-false spot (length tab.visits) q))))))

-- relations

pub insert_cut : (q : Relation) (rs : List Relation) → any (same_relation q) rs ≡ false
    → let i = index_of (λ b. precedes q (decode_relation b)) (map encode_relation rs) in insert q rs ≡ take i rs ++ (q ∷ drop i rs)
unfolding insert index_of any
insert_cut q [] n = refl
insert_cut q (x ∷ xs) n = rw (relation_back x) (go (precedes q x) (same_relation q x) n (insert_cut q xs))
  where
    go : (b d : Bool) → (d || any (same_relation q) xs) ≡ false
        → (any (same_relation q) xs ≡ false → let i = index_of (λ r. precedes q (decode_relation r)) (map encode_relation xs) in insert q xs ≡ take i xs ++ (q ∷ drop i xs))
        → let i = index_of (λ r. precedes q (decode_relation r)) (map encode_relation xs) in
        (if b then q ∷ x ∷ xs else (if d then x ∷ xs else (x ∷ insert q xs))) ≡ take (if b then 0 else suc i) (x ∷ xs) ++ (q ∷ drop (if b then 0 else suc i) (x ∷ xs))
    go true d m ih = refl
    go false true m ih = absurd (true_T false (sym m))
    go false false m ih = ap (λ r. x ∷ r) (ih m)

module _ (q : Relation) (tab : Table) (fit : Fitting tab) where
  relations_place : relation_place q (encode_page tab) ≡ index_of (λ b. precedes q (decode_relation b)) (map encode_relation tab.relations)
  unfolding relation_place
  relations_place = ap (index_of (λ b. precedes q (decode_relation b))) (relation_records_back tab fit)

  relations_index : relation_index q (encode_page tab) ≡ index_of (λ b. same_relation q (decode_relation b)) (map encode_relation tab.relations)
  unfolding relation_index
  relations_index = ap (index_of (λ b. same_relation q (decode_relation b))) (relation_records_back tab fit)

  pub add_relation_page : length tab.relations < 6 → has_relation q tab ≡ false → page_add_relation q (encode_page tab) ≡ encode_page (add_relation q tab)
  unfolding page_add_relation add_relation has_relation
  add_relation_page room absent =
      let i = index_of (λ b. precedes q (decode_relation b)) (map encode_relation tab.relations) in
      let few = counts_few 1 5 (encode_page tab) (length tab.relations) (page_length tab fit) (sym (relations_count tab)) (omega arith) in
      let inside : i ≤ length tab.relations =
      omega (arith, index_most (λ b. precedes q (decode_relation b)) (map encode_relation tab.relations), length-map tab.relations encode_relation) in
      rw (few, relations_place) (page_with_relation tab fit q i (insert q tab.relations) inside room (insert_cut q tab.relations absent))

  -- "answers how many records it moved, exactly those after the new one"
  pub moved_relation_page : length tab.relations < 6 → T (each_two precedes tab.relations)
      → moved_by_relation q (encode_page tab) ≡ count (precedes q) tab.relations
  unfolding moved_by_relation
  moved_relation_page room o =
      let few = counts_few 1 5 (encode_page tab) (length tab.relations) (page_length tab fit) (sym (relations_count tab)) (omega arith) in
      rw (few, relations_place, relations_count tab)
      (passing_behind encode_relation (λ b. precedes q (decode_relation b)) (precedes q) (λ r. ap (precedes q) (relation_back r)) precedes
      (λ x y e l. precedes_across q x y (true_T (precedes q x) e) l) tab.relations o)

  -- in a list in order a relation stands once
  alone : (x y : Relation) → same_relation q x ≡ true → T (precedes x y) → same_relation q y ≡ false
  unfolding same_relation precedes
  alone x y e o = T_false (same (key q) (key y)) (λ t.
      let left = same_equal (key q) (key x) (true_T (same (key q) (key x)) e) in
      let right = same_equal (key q) (key y) t in
      below_itself (key x) (rw (sym right ∙ left) at o))

  pub remove_relation_page : T (each_two precedes tab.relations) → page_remove_relation q (encode_page tab) ≡ encode_page (drop_relation q tab)
  unfolding page_remove_relation drop_relation
  remove_relation_page order =
      let f : List ℕ → Bool = λ b. same_relation q (decode_relation b) in
      let i = index_of f (map encode_relation tab.relations) in
      let n = length tab.relations in
      let few = counts_few 1 6 (encode_page tab) n (page_length tab fit) (sym (relations_count tab)) fit.relations_fit in
      let agree : (r : Relation) → f (encode_relation r) ≡ same_relation q r = λ r. ap (same_relation q) (relation_back r) in
      by_value (ltb i n)
      (λ p. rw (few, relations_index, relations_count tab, p)
      (page_without_relation tab fit i (keep (λ r. not (same_relation q r)) tab.relations) (ltb-true i n p)
      (keep_cut encode_relation f (same_relation q) agree precedes alone tab.relations order (ltb-true i n p))))
      (λ p. rw (few, relations_index, relations_count tab, p)
      (ap (λ (l : List Relation). encode_page (record { visits = tab.visits; relations = l }))
      (sym (keep_every (λ r. not (same_relation q r)) tab.relations (none_passes encode_relation f (same_relation q) agree tab.relations (ltb-false i n p))))))

-- the table read back

pub relations_read : (rs : List Relation) → map decode_relation (map encode_relation rs) ≡ rs
relations_read [] = refl
relations_read (r ∷ rs) = λ i. relation_back r i ∷ relations_read rs i

visits_read : (es : List Entry) → T (every (λ e. named e.visit) es) → map decode_entry (map encode_entry es) ≡ es
visits_read [] t = refl
visits_read (e ∷ es) t =
    λ i. entry_back e (every_head (λ x. named x.visit) e es t) i ∷ visits_read es (every_tail (λ x. named x.visit) e es t) i

module _ (tab : Table) (fit : Fitting tab) where
  pub relations_of_page : relations_of (encode_page tab) ≡ tab.relations
  unfolding relations_of
  relations_of_page = ap (map decode_relation) (relation_records_back tab fit) ∙ relations_read tab.relations

  pub table_back : T (every (λ e. named e.visit) tab.visits) → table_in (encode_page tab) ≡ tab
  unfolding decode_page visits_of
  table_back t =
      table_of_page (encode_page tab) (page_length tab fit)
      ∙ (λ i. record { visits = (ap (map decode_entry) (visit_records_back tab fit) ∙ visits_read tab.visits t) i; relations = relations_of_page i })

  pub lose_train_page : (t : Train) → page_lose_train t (encode_page tab) ≡ encode_page (record { visits = tab.visits; relations = lose_all t tab.relations })
  unfolding page_lose_train head_of
  lose_train_page t =
      let rs = lose_all t tab.relations in
      let few = counts_few 1 6 (encode_page tab) (length tab.relations) (page_length tab fit) (sym (relations_count tab)) fit.relations_fit in
      rw (few, relations_of_page, relations_front tab fit, relations_form_of tab tab.visits rs, append-nil (slots encode_relation 6 rs))
