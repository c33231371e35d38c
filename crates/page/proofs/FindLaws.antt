-- What is found on a page: the answers of the functions that search it, from the row that they search. A train's record
-- is the first whose number is the train's, and its visit is what that record is read as. Assumes nothing.
use Prim.Native.Nat.{ℕ, ◌+◌, ◌*◌, ◌≤◌, ◌<◌, min}
use mathlib.Core.Path.{◌≡◌, refl, sym, ap, ◌∙◌}
use mathlib.Core.Bool.{Bool, true, false}
use mathlib.Core.List.{List, []}
use native.Mathlib.Omega.{arith}
use native.Mathlib.Decide.{ℕ_discrete}
use mathlib.Core.Logic.{by_cases}
use lib.Dec.{ltb, eqb}
use lib.ListN.{length, get_or, take, drop}
use lib.Seq.{drop-drop}
use borrow.Author.Tests.{ltb-true, ltb-false, eqb-true, eqb-false, eq-eqb, ne_eqb}
use Rattle.std.specs.Prelude.{if◌then◌else◌, Some, None}
use Rattle.std.specs.Option.{is_some}
use Rattle.base.specs.Lists.{first, any}
use Rattle.railway.specs.Ranges.{same_train}
use Rattle.railway.specs.Relations.{precedes, same_relation}
use Rattle.timetable.specs.Tables.{Entry, empty, visit_of, has_relation}
use Rattle.records.specs.Bytes.{word}
use Rattle.records.specs.Records.{decode_visit, decode_train, decode_entry, decode_relation, encode_relation, visit_bytes}
use Rattle.page.specs.Types.{Train, Visit, Relation}
use Rattle.page.specs.declared.slots.Slots.{Slots}
use Rattle.page.specs.Pages.{records_of, visit_records, relation_records, visits_of, relations_of, decode_page}
use Rattle.page.specs.between.Changes.{table_in, index_of, found, train_index, train_place, train_found, relation_index, relation_place}
use Rattle.page.specs.between.Changes.{page_add_visit, moved_by_visit, page_write_visit, page_remove_visit, page_add_relation, moved_by_relation, page_remove_relation}
use Rattle.page.specs.between.Slots.{records_in, count_in, record_in, place_in, found_in, added, moved_by, written, removed}
use Rattle.page.specs.between.Entries.{entry_bytes, relation_bytes}
use Rattle.page.proofs.SlotLaws.{length_records, record_there, table_of_page, table_of_none, first_at, first_nowhere, any_index, visits_many, relations_many, no_visits, no_relations}

-- the two rows of a page
abbrev pub visits : Slots
visits = record { head = 0; from = 32; most = 24 }

abbrev pub relations : Slots
relations = record { head = 1; from = 416; most = 6 }

pub visits_counted : (page : List ℕ) → count_in visits page ≡ length (table_in page).visits
unfolding count_in
visits_counted page = by_cases (ℕ_discrete (length page) 512)
    (λ w. rw (eq-eqb (length page) 512 w) (sym (visits_many page w)))
    (λ w. rw (ne_eqb (length page) 512 w) (sym (no_visits page w)))

pub relations_counted : (page : List ℕ) → count_in relations page ≡ length (table_in page).relations
unfolding count_in
relations_counted page = by_cases (ℕ_discrete (length page) 512)
    (λ w. rw (eq-eqb (length page) 512 w) (sym (relations_many page w)))
    (λ w. rw (ne_eqb (length page) 512 w) (sym (no_relations page w)))

module _ (t : Train) (page : List ℕ) where
  -- the tests of a record by its train
  abbrev pub is_of : List ℕ → Bool
  is_of r = eqb (word r 0) t.0

  abbrev pub is_behind : List ℕ → Bool
  is_behind r = ltb t.0 (word r 0)

  pub train_found_is : found_in visits is_of page ≡ train_found t page
  unfolding found_in place_in records_in train_found train_index visit_records
  train_found_is = refl

  pub add_visit_is : (v : Visit) → added visits is_behind (visit_bytes t v) page ≡ page_add_visit t v page
  unfolding added place_in records_in page_add_visit train_place visit_records
  add_visit_is v = refl

  pub moved_visit_is : moved_by visits is_behind page ≡ moved_by_visit t page
  unfolding moved_by place_in records_in moved_by_visit train_place visit_records
  moved_visit_is = refl

  pub write_visit_is : (v : Visit) → written visits is_of (visit_bytes t v) page ≡ page_write_visit t v page
  unfolding written place_in records_in page_write_visit train_index visit_records
  write_visit_is v = refl

  pub remove_visit_is : removed visits is_of page ≡ page_remove_visit t page
  unfolding removed place_in records_in page_remove_visit train_index visit_records
  remove_visit_is = refl

  -- and back: what the answer says
  pub record Standing (i : ℕ) : Type 0 where
    pub whole : length page ≡ 512
    pub place : train_index t page ≡ i
    pub inside : i < min (get_or page 0 0) 24

  pub at_found : (i : ℕ) → train_found t page ≡ Some i → Standing i
  unfolding train_found found
  at_found i q = go (eqb (length page) 512) refl (ltb (train_index t page) (min (get_or page 0 0) 24)) refl q
    where
      go : (b : Bool) → eqb (length page) 512 ≡ b → (d : Bool) → ltb (train_index t page) (min (get_or page 0 0) 24) ≡ d
          → (if b then (if d then Some (train_index t page) else None) else None) ≡ Some i → Standing i
      go true p true r w =
          let same : train_index t page ≡ i = cc in
          record { whole = eqb-true (length page) 512 p; place = same; inside = omega (arith, ltb-true (train_index t page) (min (get_or page 0 0) 24) r) }
      go true p false r w = absurd (let z : ◌≡◌ {A = ℕ} 0 1 = cc in omega arith)
      go false p d r w = absurd (let z : ◌≡◌ {A = ℕ} 0 1 = cc in omega arith)

  -- the visit there
  pub visit_there : (i : ℕ) → train_found t page ≡ Some i
      → Some (decode_visit (take 16 (drop (32 + 16 * i) page))) ≡ visit_of t (table_in page)
  unfolding visit_of decode_page visits_of train_index visit_records decode_entry decode_train
  visit_there i q =
      let s = at_found i q in
      let n = min (get_or page 0 0) 24 in
      let rs = records_of n (drop 32 page) in
      let inside : index_of (λ r. eqb (word r 0) t.0) rs < length rs = omega (arith, s.place, s.inside, length_records n (drop 32 page)) in
      let one = first_at (λ (e : Entry). same_train e.train t) decode_entry rs inside in
      let there : get_or rs i [] ≡ take 16 (drop (32 + 16 * i) page) = record_there n (drop 32 page) i s.inside ∙ ap (take 16) (drop-drop (16 * i) 32 page) in
      sym (rw (table_of_page page s.whole, one, s.place, there))

  pub visit_nowhere : train_found t page ≡ None → None ≡ visit_of t (table_in page)
  unfolding train_found found visit_of decode_page visits_of train_index visit_records decode_entry decode_train empty first
  visit_nowhere q = go (eqb (length page) 512) refl (ltb (train_index t page) (min (get_or page 0 0) 24)) refl q
    where
      go : (b : Bool) → eqb (length page) 512 ≡ b → (d : Bool) → ltb (train_index t page) (min (get_or page 0 0) 24) ≡ d
          → (if b then (if d then Some (train_index t page) else None) else None) ≡ None
          → None ≡ visit_of t (table_in page)
      go true p true r w = absurd (let z : ◌≡◌ {A = ℕ} 0 1 = cc in omega arith)
      go true p false r w =
          let n = min (get_or page 0 0) 24 in
          let rs = records_of n (drop 32 page) in
          let outside : length rs ≤ index_of (λ r. eqb (word r 0) t.0) rs =
          omega (arith, ltb-false (train_index t page) n r, length_records n (drop 32 page)) in
          sym (rw (table_of_page page (eqb-true (length page) 512 p), first_nowhere (λ (e : Entry). same_train e.train t) decode_entry rs outside))
      go false p d r w = sym (rw (table_of_none page (eqb-false (length page) 512 p)))

module _ (q : Relation) (page : List ℕ) where
  -- the tests of a record by its relation
  abbrev pub is_it : List ℕ → Bool
  is_it r = same_relation q (decode_relation r)

  abbrev pub comes_behind : List ℕ → Bool
  comes_behind r = precedes q (decode_relation r)

  pub add_relation_is : added relations comes_behind (encode_relation q) page ≡ page_add_relation q page
  unfolding added place_in records_in page_add_relation relation_place relation_records
  add_relation_is = refl

  pub moved_relation_is : moved_by relations comes_behind page ≡ moved_by_relation q page
  unfolding moved_by place_in records_in moved_by_relation relation_place relation_records
  moved_relation_is = refl

  pub remove_relation_is : removed relations is_it page ≡ page_remove_relation q page
  unfolding removed place_in records_in page_remove_relation relation_index relation_records
  remove_relation_is = refl

  found_some : (i n : ℕ) → is_some (found i n) ≡ ltb i n
  unfolding found
  found_some i n = go (ltb i n)
    where
      go : (b : Bool) → is_some (if b then Some i else None) ≡ b
      go true = refl
      go false = refl

  pub relation_known : is_some (found_in relations is_it page) ≡ has_relation q (table_in page)
  unfolding found_in place_in records_in has_relation decode_page relations_of relation_records empty any
  relation_known =
      let k = min (get_or page 1 0) 6 in
      let rs = records_of k (drop 416 page) in
      by_cases (ℕ_discrete (length page) 512)
      (λ w. rw (eq-eqb (length page) 512 w, table_of_page page w)
      (found_some (index_of is_it rs) k ∙ ap (ltb (index_of is_it rs)) (sym (length_records k (drop 416 page))) ∙ sym (any_index (same_relation q) decode_relation rs)))
      (λ w. rw (ne_eqb (length page) 512 w, table_of_none page w))

-- the records by their index

pub entry_is : (i : ℕ) (page : List ℕ) → record_in visits i page ≡ entry_bytes i page
unfolding record_in entry_bytes
entry_is i page = rw (visits_counted page)

pub relation_is : (i : ℕ) (page : List ℕ) → record_in relations i page ≡ relation_bytes i page
unfolding record_in relation_bytes
relation_is i page = rw (relations_counted page)
