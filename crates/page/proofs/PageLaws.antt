-- A page and its table: a table within the limits, no link of which has station 0, has a page of 512 bytes, and that
-- page is read back as the table. So a good page is that of its table and of no other. Each record is read back by
-- itself; the records of a row of slots by induction. Assumes nothing.
use Prim.Native.Nat.{ℕ, ◌*◌, ◌-◌, ◌≤◌, min}
use mathlib.Core.Path.{◌≡◌, refl, sym, ◌∙◌, ap, ap₂}
use mathlib.Core.Bool.{Bool, true}
use mathlib.Core.List.{List, [], ◌∷◌, ◌++◌, map, flat_map, append_assoc, append-nil}
use native.Mathlib.Nat.{min-eq_left}
use native.Mathlib.Omega.{arith}
use lib.Dec.{T, ltb, leb→le}
use lib.ListN.{length, drop, length-append}
use lib.Seq.{drop_at, drop-drop}
use borrow.Author.Tests.{lt-ltb}
use Rattle.base.specs.Lists.{every, same}
use Rattle.base.proofs.Sorted.{same_equal, same_refl}
use Rattle.base.proofs.Tests.{true_T, and_l, and_r, both, every_true, parts, every_head, every_tail, every_weaker}
use Rattle.timetable.specs.Tables.{Entry, Table, empty}
use Rattle.timetable.specs.Visits.{ins, outs}
use Rattle.timetable.specs.Good.{in_good, out_good, entry_good, table_good}
use Rattle.timetable.proofs.TableLaws.{table_facts, visit_facts}
use Rattle.records.specs.Bytes.{zeros}
use Rattle.records.specs.Records.{named_in, named_out, named, encode_entry, decode_entry, encode_relation, decode_relation}
use Rattle.records.proofs.RecordLaws.{entry_length, relation_length, entry_back, relation_back}
use Rattle.page.specs.Types.{Station, Visit, InLink, OutLink, Relation, Network}
use Rattle.page.specs.Pages.{slots, encode_page, records_of, visit_records, relation_records, visits_of, relations_of, decode_page, good_page}
use Rattle.page.proofs.FlatLaws.{slots_length, records_flat}

-- no link of the entry's visit has station 0
abbrev pub linked : Entry → Bool
linked e = named e.visit

-- a row of slots: records of 16 bytes

module _ {A : Type 0} (encode : A → List ℕ) (wide : (x : A) → length (encode x) ≡ 16) (decode : List ℕ → A) (ok : A → Bool)
    (back : (x : A) → T (ok x) → decode (encode x) ≡ x) where
  pub map_back : (xs : List A) → T (every ok xs) → map decode (map encode xs) ≡ xs
  map_back [] t = refl
  map_back (x ∷ xs) t = ap₂ (λ y ys. y ∷ ys) (back x (every_head ok x xs t)) (map_back xs (every_tail ok x xs t))

  pub slots_back : (k : ℕ) (xs : List A) (q : List ℕ) → length xs ≤ k → T (every ok xs) → map decode (records_of (min (length xs) k) (slots encode k xs ++ q)) ≡ xs
  unfolding slots
  slots_back k xs q h t =
      ap₂ (λ n b. map decode (records_of n b)) (min-eq_left h) (append_assoc (flat_map encode xs) (zeros (16 * (k - length xs))) q)
      ∙ ap (map decode) (records_flat encode wide xs (zeros (16 * (k - length xs)) ++ q))
      ∙ map_back xs t

-- a page

-- within the limits, and no link of station 0
pub record Coded (tab : Table) : Type 0 where
  pub visits : length tab.visits ≤ 24
  pub relations : length tab.relations ≤ 6
  pub links : T (every linked tab.visits)

-- a test that every relation passes
unfoldable pub always : Relation → Bool
always r = true

module _ (tab : Table) (c : Coded tab) where
  pub page_length : length (encode_page tab) ≡ 512
  unfolding encode_page
  page_length =
      let v = slots_length encode_entry entry_length 24 tab.visits c.visits in
      let r = slots_length encode_relation relation_length 6 tab.relations c.relations in
      omega (arith, length-append (slots encode_entry 24 tab.visits) (slots encode_relation 6 tab.relations))

  visits_back : visits_of (encode_page tab) ≡ tab.visits
  unfolding visits_of visit_records encode_page
  visits_back = slots_back encode_entry entry_length decode_entry linked entry_back 24 tab.visits (slots encode_relation 6 tab.relations) c.visits c.links

  pub relations_behind : drop 416 (encode_page tab) ≡ slots encode_relation 6 tab.relations
  unfolding encode_page
  relations_behind =
      sym (drop-drop 384 32 (encode_page tab))
      ∙ drop_at (slots encode_entry 24 tab.visits) (slots encode_relation 6 tab.relations) 384 (slots_length encode_entry entry_length 24 tab.visits c.visits)

  relations_back : relations_of (encode_page tab) ≡ tab.relations
  unfolding relations_of relation_records encode_page always
  relations_back =
      let m = length tab.relations in
      ap (λ (b : List ℕ). map decode_relation (records_of (min m 6) b)) (relations_behind ∙ sym (append-nil (slots encode_relation 6 tab.relations)))
      ∙ slots_back encode_relation relation_length decode_relation always (λ r t. relation_back r) 6 tab.relations [] c.relations (every_true tab.relations)

  pub page_back : decode_page (encode_page tab) ≡ tab
  unfolding decode_page
  page_back = λ i. record { visits = visits_back i; relations = relations_back i }

-- the empty table has the blank page

pub blank_page : encode_page empty ≡ zeros 512
unfolding encode_page slots empty flat_map
blank_page = refl

pub blank_back : decode_page (zeros 512) ≡ empty
unfolding decode_page visits_of relations_of visit_records relation_records records_of empty
blank_back = refl

pub empty_coded : Coded empty
unfolding empty every
empty_coded = record { visits = omega arith; relations = omega arith; links = tt }

-- a good table has a page

in_linked : (n : Network) (s : Station) (v : Visit) → T (every (in_good n s) (ins v)) → T (named_in v.inward)
unfolding ins named_in every in_good
in_linked n s v t = go v.inward t
  where
    go : (l : InLink) → T (every (in_good n s) (elim l [ InLink.Nothing ↦ [] | InLink.From i ↦ i ∷ [] ])) → T (named_in l)
    go InLink.Nothing u = tt
    go (InLink.From i) u = true_T (ltb 0 i.station.0) (lt-ltb 0 i.station.0 (leb→le 1 i.station.0 (search parts)))

out_linked : (n : Network) (s : Station) (v : Visit) → T (every (out_good n s) (outs v)) → T (named_out v.outward)
unfolding outs named_out every out_good
out_linked n s v t = go v.outward t
  where
    go : (l : OutLink) → T (every (out_good n s) (elim l [ OutLink.Nothing ↦ [] | OutLink.To o ↦ o ∷ [] ])) → T (named_out l)
    go OutLink.Nothing u = tt
    go (OutLink.To o) u = true_T (ltb 0 o.station.0) (lt-ltb 0 o.station.0 (leb→le 1 o.station.0 (search parts)))

module _ (n : Network) (s : Station) where
  entry_linked : (e : Entry) → T (entry_good n s e) → T (linked e)
  unfolding entry_good named
  entry_linked e t =
      let g = visit_facts n s e.visit (search parts) in
      both (named_in e.visit.inward) (named_out e.visit.outward) (in_linked n s e.visit g.inward) (out_linked n s e.visit g.outward)

  pub good_coded : (tab : Table) → T (table_good n s tab) → Coded tab
  good_coded tab t =
      let g = table_facts n s tab t in
      record {
        visits = g.visits.few;
        relations = g.relations.few;
        links = every_weaker (entry_good n s) linked entry_linked tab.visits g.visits.each;
      }

  -- the page of a good table is good
  pub encoded_good : (tab : Table) → T (table_good n s tab) → T (good_page n s (encode_page tab))
  unfolding good_page
  encoded_good tab t = rw (page_back tab (good_coded tab t)) (both (same (encode_page tab) (encode_page tab)) (table_good n s tab) (same_refl (encode_page tab)) t)

  -- a good page is that of its table, which is good
  module _ (page : List ℕ) (t : T (good_page n s page)) where
    pub good_bytes : page ≡ encode_page (decode_page page)
    unfolding good_page
    good_bytes = same_equal page (encode_page (decode_page page)) (and_l (same page (encode_page (decode_page page))) (table_good n s (decode_page page)) t)

    pub good_table : T (table_good n s (decode_page page))
    unfolding good_page
    good_table = and_r (same page (encode_page (decode_page page))) (table_good n s (decode_page page)) t

    pub good_length : length page ≡ 512
    good_length = ap length good_bytes ∙ page_length (decode_page page) (good_coded (decode_page page) good_table)

-- equal tables are equal bytes
pub good_same : (n : Network) (s : Station) (n' : Network) (s' : Station) (page page' : List ℕ) → T (good_page n s page) → T (good_page n' s' page')
    → decode_page page ≡ decode_page page' → page ≡ page'
good_same n s n' s' page page' t u e = good_bytes n s page t ∙ ap encode_page e ∙ sym (good_bytes n' s' page' u)
