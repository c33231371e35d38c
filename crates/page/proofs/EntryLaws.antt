-- The records of a page's entries and relations, by their index, and lists of them gone through from an index on.
-- Assumes nothing.
use Prim.Native.Nat.{ℕ, ◌+◌, ◌*◌, ◌<◌, ◌≤◌, min}
use mathlib.Core.Path.{◌≡◌, refl, sym, ap, ◌∙◌}
use mathlib.Core.List.{List, [], ◌∷◌}
use native.Mathlib.Omega.{arith}
use native.Mathlib.Decide.{ℕ_discrete}
use mathlib.Core.Logic.{by_cases}
use lib.Dec.{ltb}
use lib.ListN.{length, get_or, take, drop, drop_of_length-le, get_or-map, get_or-eq_default}
use lib.Seq.{drop-drop}
use borrow.Author.Tests.{lt-ltb, le-ltb, ltb-true, ltb-false}
use Rattle.base.proofs.Tests.{by_value}
use Rattle.base.proofs.Lengths.{drop_next}
use Rattle.records.specs.Records.{decode_train, decode_visit, decode_entry, decode_relation}
use Rattle.page.specs.Pages.{records_of, visit_records, relation_records, visits_of, relations_of, decode_page}
use Rattle.page.specs.between.Changes.{table_in}
use Rattle.page.proofs.SlotLaws.{record_there, table_of_page, visits_many, relations_many, no_visits, no_relations}
use Rattle.railway.specs.declared.sorts.Train.{Train}
use Rattle.railway.specs.declared.visit.Visit.{Visit}
use Rattle.timetable.specs.Tables.{Entry}
use Rattle.page.specs.between.Entries.{entry_bytes, relation_bytes, entry_at, relation_at}

module _ (page : List ℕ) (i n : ℕ) where
  entry_past : n ≡ length (table_in page).visits → n ≤ i → decode_entry [] ≡ entry_at i page
  unfolding entry_at
  entry_past e h = sym (get_or-eq_default (table_in page).visits (decode_entry []) {n = i} (omega arith))

  relation_past : n ≡ length (table_in page).relations → n ≤ i → decode_relation [] ≡ relation_at i page
  unfolding relation_at
  relation_past e h = sym (get_or-eq_default (table_in page).relations (decode_relation []) {n = i} (omega arith))

  module _ (whole : length page ≡ 512) where
    entry_in : i < min (get_or page 0 0) 24 → decode_entry (take 16 (drop (32 + 16 * i) page)) ≡ entry_at i page
    unfolding entry_at decode_page visits_of visit_records
    entry_in h =
        let k = min (get_or page 0 0) 24 in
        sym (rw (table_of_page page whole)
        (get_or-map decode_entry (records_of k (drop 32 page)) i []
        ∙ ap decode_entry (record_there k (drop 32 page) i h ∙ ap (take 16) (drop-drop (16 * i) 32 page))))

    relation_in : i < min (get_or page 1 0) 6 → decode_relation (take 16 (drop (416 + 16 * i) page)) ≡ relation_at i page
    unfolding relation_at decode_page relations_of relation_records
    relation_in h =
        let k = min (get_or page 1 0) 6 in
        sym (rw (table_of_page page whole)
        (get_or-map decode_relation (records_of k (drop 416 page)) i []
        ∙ ap decode_relation (record_there k (drop 416 page) i h ∙ ap (take 16) (drop-drop (16 * i) 416 page))))

  -- where there are entries, there is a page
  entry_read : n ≡ length (table_in page).visits → i < n → decode_entry (take 16 (drop (32 + 16 * i) page)) ≡ entry_at i page
  entry_read e h = by_cases (ℕ_discrete (length page) 512)
      (λ w. entry_in w (omega (arith, visits_many page w)))
      (λ w. absurd (omega (arith, no_visits page w)))

  relation_read : n ≡ length (table_in page).relations → i < n → decode_relation (take 16 (drop (416 + 16 * i) page)) ≡ relation_at i page
  relation_read e h = by_cases (ℕ_discrete (length page) 512)
      (λ w. relation_in w (omega (arith, relations_many page w)))
      (λ w. absurd (omega (arith, no_relations page w)))

  -- the records as the tests of the code cut them out

  pub entry_cut : n ≡ length (table_in page).visits → i < n → take 16 (drop (32 + 16 * i) page) ≡ entry_bytes i page
  unfolding entry_bytes
  entry_cut e h = sym (rw (lt-ltb i (length (table_in page).visits) (omega arith)))

  pub entry_left : n ≡ length (table_in page).visits → n ≤ i → [] ≡ entry_bytes i page
  unfolding entry_bytes
  entry_left e h = sym (rw (le-ltb i (length (table_in page).visits) (omega arith)))

  pub relation_cut : n ≡ length (table_in page).relations → i < n → take 16 (drop (416 + 16 * i) page) ≡ relation_bytes i page
  unfolding relation_bytes
  relation_cut e h = sym (rw (lt-ltb i (length (table_in page).relations) (omega arith)))

  pub relation_left : n ≡ length (table_in page).relations → n ≤ i → [] ≡ relation_bytes i page
  unfolding relation_bytes
  relation_left e h = sym (rw (le-ltb i (length (table_in page).relations) (omega arith)))

  -- from an index on

  pub entries_next : n ≡ length (table_in page).visits → i < n → drop i (table_in page).visits ≡ entry_at i page ∷ drop (i + 1) (table_in page).visits
  unfolding entry_at
  entries_next e h = drop_next (table_in page).visits i (decode_entry []) (omega arith)

  pub relations_next : n ≡ length (table_in page).relations → i < n
      → drop i (table_in page).relations ≡ relation_at i page ∷ drop (i + 1) (table_in page).relations
  unfolding relation_at
  relations_next e h = drop_next (table_in page).relations i (decode_relation []) (omega arith)

  pub entries_over : n ≡ length (table_in page).visits → n ≤ i → drop i (table_in page).visits ≡ []
  entries_over e h = drop_of_length-le (table_in page).visits {i = i} (omega arith)

  pub relations_over : n ≡ length (table_in page).relations → n ≤ i → drop i (table_in page).relations ≡ []
  relations_over e h = drop_of_length-le (table_in page).relations {i = i} (omega arith)

-- what a record is read as
module _ (r : List ℕ) (page : List ℕ) (i : ℕ) where
  pub entry_of : r ≡ entry_bytes i page → decode_entry r ≡ entry_at i page
  entry_of e =
      let n = length (table_in page).visits in
      by_value (ltb i n)
      (λ b. let h = ltb-true i n b in ap decode_entry (e ∙ sym (entry_cut page i n refl h)) ∙ entry_read page i n refl h)
      (λ b. let h = ltb-false i n b in ap decode_entry (e ∙ sym (entry_left page i n refl h)) ∙ entry_past page i n refl h)

  pub relation_of : r ≡ relation_bytes i page → decode_relation r ≡ relation_at i page
  relation_of e =
      let n = length (table_in page).relations in
      by_value (ltb i n)
      (λ b. let h = ltb-true i n b in ap decode_relation (e ∙ sym (relation_cut page i n refl h)) ∙ relation_read page i n refl h)
      (λ b. let h = ltb-false i n b in ap decode_relation (e ∙ sym (relation_left page i n refl h)) ∙ relation_past page i n refl h)

-- a record read by its two halves
pub entry_parts : (r : List ℕ) (t : Train) (v : Visit) → t ≡ decode_train r → v ≡ decode_visit r → ◌≡◌ {A = Entry} (record { train = t; visit = v }) (decode_entry r)
unfolding decode_entry
entry_parts r t v p q = λ i. record { train = p i; visit = q i }
