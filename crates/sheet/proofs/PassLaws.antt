-- The tests that the code makes decide what is good. A row of slots passes just where it is that of the list that is
-- read from it, each element of which passes and comes after the one before: indexes are turned into a list of records,
-- neighbours into each two. A page passes just where it is good. Assumes nothing.
use Prim.Native.Nat.{ℕ, zero, suc, ◌+◌, ◌*◌, ◌-◌, ◌≤◌, ◌<◌, min}
use mathlib.Core.Path.{◌≡◌, refl, sym, ◌∙◌, ap, ap₂, fun_ext}
use mathlib.Core.Bool.{Bool, true, false, ◌&&◌, ◌||◌}
use mathlib.Core.List.{List, [], ◌∷◌, ◌++◌, map, flat_map, append_assoc}
use native.Mathlib.Nat.{min-eq_left, zero-add, sub-zero, add-sub_cancel_left}
use native.Mathlib.Omega.{arith}
use lib.Dec.{T, ltb, leb, eqb, leb→le, le→leb, eqb→eq}
use lib.ListN.{length, get_or, take, drop, take-append-drop, length-drop, length-map, drop_of_length-le}
use lib.Seq.{drop-cons, drop-drop, drop_at, take_at, take_all, take-take, length-take-le}
use borrow.Author.Tests.{lt-ltb, le-ltb, le-leb, lt-leb, eq-eqb, ne_eqb, eqb-false}
use Rattle.base.specs.Choice.{◌if◌else◌}
use Rattle.base.specs.Lists.{every, each_two, same}
use Rattle.base.proofs.Lengths.{every_next}
use Rattle.base.proofs.Sorted.{smaller_across, two_head, two_tail, two_step, two_map, same_equal, same_refl, two_weaker}
use Rattle.base.proofs.Tests.{by_value, T_true, true_T, and_l, and_r, both, or_r, or_cases, parts, every_head, every_tail, every_weaker, every_map, every_true, every_both, every_at, T_false}
use Rattle.railway.specs.Ranges.{train_ok}
use Rattle.network.specs.Networks.{listed, area_of}
use Rattle.railway.specs.Relations.{relation_ok, precedes}
use Rattle.timetable.specs.Tables.{Entry, Table}
use Rattle.timetable.specs.Good.{in_good, out_good, links_good, values_good, visit_good, entry_good, table_good}
use Rattle.timetable.specs.Groups.{six, in_group}
use Rattle.timetable.specs.Visits.{ins, outs}
use Rattle.timetable.proofs.TableLaws.{number, precedes_across, table_facts, table_fits}
use Rattle.records.specs.Bytes.{zeros, chunk, blank}
use Rattle.records.specs.Records.{decode_train, decode_visit, visit_bytes, encode_entry, decode_entry, encode_relation, decode_relation}
use Rattle.records.proofs.RecordLaws.{entry_length, relation_length, entry_back, relation_back}
use Rattle.sheet.specs.Types.{Station, Area, Train, Visit, InLink, OutLink, Relation, Network}
use Rattle.page.specs.Pages.{slots, encode_page, records_of, visit_records, relation_records, visits_of, relations_of, decode_page, good_page}
use Rattle.sheet.specs.Sheets.{sixteen, page_at, good_sheet, sheet_at, good_division}
use Rattle.sheet.specs.declared.test.Extent.{Extent}
use Rattle.sheet.specs.between.Passes.{covers, place_passes, sheet_passes, division_passes}
use Rattle.sheet.specs.between.Passes.{visit_run, relation_run, in_passes, out_passes, visit_passes, train_if, passing_train, relation_passes, train_after, relation_after, earlier, record_passes, comes_after, each_index, records_pass, slots_passes, visits_pass, relations_pass, content_passes, page_passes}
use Rattle.page.proofs.SlotLaws.{length_records, record_there}
use Rattle.page.proofs.FlatLaws.{flat_length, slots_length, records_flat}
use Rattle.page.proofs.PageLaws.{linked, always, Coded, page_length, relations_behind, good_coded, good_bytes, good_table}
use Rattle.sheet.proofs.FillLaws.{drop_take, part_size}
use Rattle.sheet.proofs.SheetLaws.{mk, station_at, sixteen_long, area_at, blank_zeros, zeros_blank}

-- two tests that follow from each other are one
pub same_test : (a b : Bool) → (T a → T b) → (T b → T a) → a ≡ b
same_test true true f g = refl
same_test true false f g = absurd (f tt)
same_test false true f g = absurd (g tt)
same_test false false f g = refl

-- indexes

index_test : (f : ℕ → Bool) (n i j : ℕ) → T (each_index f n i) → j < n → T (f (i + j))
unfolding each_index
index_test f zero i j t h = absurd (omega arith)
index_test f (suc n) i zero t h = let e : i + 0 ≡ i = omega arith in rw e (and_l (f i) (each_index f n (i + 1)) t)
index_test f (suc n) i (suc j) t h =
    let e : i + suc j ≡ i + 1 + j = omega arith in
    rw e (index_test f n (i + 1) j (and_r (f i) (each_index f n (i + 1)) t) (omega arith))

test_index : (f : ℕ → Bool) (n i : ℕ) → ((j : ℕ) → j < n → T (f (i + j))) → T (each_index f n i)
unfolding each_index
test_index f zero i h = tt
test_index f (suc n) i h =
    let e : i + 0 ≡ i = omega arith in
    both (f i) (each_index f n (i + 1)) (rw e at (h 0 (omega arith)))
    (test_index f n (i + 1) (λ j l. let q : i + suc j ≡ i + 1 + j = omega arith in rw q at (h (suc j) (omega arith))))

module _ {A : Type 0} (d : A) where
  all_every : (f : A → Bool) (xs : List A) → ((j : ℕ) → j < length xs → T (f (get_or xs j d))) → T (every f xs)
  unfolding every
  all_every f [] h = tt
  all_every f (x ∷ xs) h = both (f x) (every f xs) (h 0 (omega arith)) (all_every f xs (λ j l. h (suc j) (omega arith)))

  -- neighbours in an order are each two
  next_two : (r : A → A → Bool) → ((x y z : A) → T (r x y) → T (r y z) → T (r x z)) → (xs : List A)
      → ((j : ℕ) → suc j < length xs → T (r (get_or xs j d) (get_or xs (suc j) d))) → T (each_two r xs)
  unfolding each_two every
  next_two r across [] h = tt
  next_two r across (x ∷ []) h = tt
  next_two r across (x ∷ y ∷ ys) h =
      two_step r across x y ys (h 0 (omega arith)) (next_two r across (y ∷ ys) (λ j l. h (suc j) (omega arith)))

  two_next : (r : A → A → Bool) (xs : List A) (j : ℕ) → T (each_two r xs) → suc j < length xs → T (r (get_or xs j d) (get_or xs (suc j) d))
  two_next r [] j t h = absurd (omega arith)
  two_next r (x ∷ xs) zero t h = every_at (r x) xs 0 d (two_head r x xs t) (omega arith)
  two_next r (x ∷ xs) (suc j) t h = two_next r xs j (two_tail r x xs t) (omega arith)

-- records

-- what is cut off behind the records does not matter
pub records_cut : (k m : ℕ) (b : List ℕ) → k ≤ m → records_of k (take (16 * m) b) ≡ records_of k b
unfolding records_of
records_cut zero m b h = refl
records_cut (suc k) zero b h = absurd (omega arith)
records_cut (suc k) (suc m) b h =
    let e : 16 * suc m ≡ 16 + 16 * m = omega arith in
    ap₂ (λ (r c : List ℕ). r ∷ records_of k c)
    (take-take 16 (16 * suc m) b (omega arith)) (ap (λ (j : ℕ). drop 16 (take j b)) e ∙ drop_take 16 (16 * m) b)
    ∙ ap (λ (rs : List (List ℕ)). take 16 b ∷ rs) (records_cut k m (drop 16 b) (omega arith))

-- records that are each that of what they are read as
records_back : {A : Type 0} (encode : A → List ℕ) (decode : List ℕ → A) (k : ℕ) (b : List ℕ)
    → T (every (λ r. same r (encode (decode r))) (records_of k b)) → b ≡ flat_map encode (map decode (records_of k b)) ++ drop (16 * k) b
unfolding records_of flat_map
records_back encode decode zero b t = refl
records_back encode decode (suc k) b t =
    let own : List ℕ → Bool = λ r. same r (encode (decode r)) in
    let r = take 16 b in
    let rest = drop 16 b in
    let xs = flat_map encode (map decode (records_of k rest)) in
    let e : 16 + 16 * k ≡ 16 * suc k = omega arith in
    sym (take-append-drop 16 b)
    ∙ ap₂ ◌++◌ (same_equal r (encode (decode r)) (every_head own r (records_of k rest) t)) (records_back encode decode k rest (every_tail own r (records_of k rest) t))
    ∙ sym (append_assoc (encode (decode r)) xs (drop (16 * k) rest))
    ∙ ap (λ (q : List ℕ). (encode (decode r) ++ xs) ++ q) (drop-drop (16 * k) 16 b ∙ ap (λ (j : ℕ). drop j b) e)

module _ {A : Type 0} (encode : A → List ℕ) (decode : List ℕ → A) (ok : A → Bool) (before : A → A → Bool)
    (wide : (x : A) → length (encode x) ≡ 16) (across : (x y z : A) → T (before x y) → T (before y z) → T (before x z)) where
  -- what a row of slots that passes is
  pub record Slotted (k m : ℕ) (b : List ℕ) : Type 0 where
    pub bytes : b ≡ slots encode m (map decode (records_of k b))
    pub each : T (every ok (map decode (records_of k b)))
    pub order : T (each_two before (map decode (records_of k b)))

  abbrev passes : List ℕ → Bool
  passes r = record_passes encode decode ok r

  module _ (k : ℕ) (b : List ℕ) (t : T (records_pass encode decode ok before k b)) where
    both_tests : (j : ℕ) → j < k → T (passes (chunk j b) && comes_after decode before b j)
    unfolding records_pass
    both_tests j h =
        rw (zero-add j) at (index_test (λ i. passes (chunk i b) && comes_after decode before b i) k 0 j t h)

    each_passes : T (every passes (records_of k b))
    each_passes = all_every [] passes (records_of k b) one
      where
        one : (j : ℕ) → j < length (records_of k b) → T (passes (get_or (records_of k b) j []))
        one j h =
            let l : j < k = omega (arith, length_records k b) in
            rw (record_there k b j l) (and_l (passes (chunk j b)) (comes_after decode before b j) (both_tests j l))

    in_order : T (each_two (λ r q. before (decode r) (decode q)) (records_of k b))
    unfolding comes_after
    in_order = next_two [] (λ r q. before (decode r) (decode q)) (λ x y z. across (decode x) (decode y) (decode z)) (records_of k b) one
      where
        one : (j : ℕ) → suc j < length (records_of k b) → T (before (decode (get_or (records_of k b) j [])) (decode (get_or (records_of k b) (suc j) [])))
        one j h =
            let l : suc j < k = omega (arith, length_records k b) in
            let e : suc j - 1 ≡ j = omega arith in
            let u : T (eqb (suc j) 0 || before (decode (chunk (suc j - 1) b)) (decode (chunk (suc j) b))) =
            and_r (passes (chunk (suc j) b)) (comes_after decode before b (suc j)) (both_tests (suc j) l) in
            rw (record_there k b j (omega arith), record_there k b (suc j) l)
            (or_cases (eqb (suc j) 0) (before (decode (chunk (suc j - 1) b)) (decode (chunk (suc j) b))) u
            (λ z. absurd (omega (arith, eqb→eq (suc j) 0 z))) (λ v. rw e at v))

  pub slots_in : (k m : ℕ) (b : List ℕ) → length b ≡ 16 * m → k ≤ m → T (slots_passes encode decode ok before k b) → Slotted k m b
  unfolding slots_passes slots record_passes
  slots_in k m b size h t =
      let u = and_l (records_pass encode decode ok before k b) (blank (drop (16 * k) b)) t in
      let z = and_r (records_pass encode decode ok before k b) (blank (drop (16 * k) b)) t in
      let rs = records_of k b in
      let own : List ℕ → Bool = λ r. same r (encode (decode r)) in
      let all = each_passes k b u in
      let n : length (map decode rs) ≡ k = length-map rs decode ∙ length_records k b in
      let e : length (drop (16 * k) b) ≡ 16 * (m - length (map decode rs)) = length-drop (16 * k) b ∙ omega arith in
      record {
        bytes =
            records_back encode decode k b (every_weaker passes own (λ r v. and_l (own r) (ok (decode r)) v) rs all)
            ∙ ap (λ (q : List ℕ). flat_map encode (map decode rs) ++ q) (blank_zeros (drop (16 * k) b) z ∙ ap zeros e);
        each = rw (every_map ok decode rs) (every_weaker passes (λ r. ok (decode r)) (λ r v. and_r (own r) (ok (decode r)) v) rs all);
        order = rw (two_map before decode rs) (in_order k b u);
      }

  -- the slots of a list passes
  module _ (coded : A → Bool) (back : (x : A) → T (coded x) → decode (encode x) ≡ x) (m : ℕ) (xs : List A) (few : length xs ≤ m)
      (c : T (every coded xs)) (each : T (every ok xs)) (order : T (each_two before xs)) where
    all_pass : T (every passes (map encode xs))
    unfolding record_passes
    all_pass =
        rw (every_map passes encode xs)
        (every_weaker (λ x. coded x && ok x) (λ x. passes (encode x)) one xs (every_both coded ok xs c each))
      where
        one : (x : A) → T (coded x && ok x) → T (passes (encode x))
        one x v =
            rw (back x (and_l (coded x) (ok x) v)) (both (same (encode x) (encode x)) (ok x) (same_refl (encode x)) (and_r (coded x) (ok x) v))

    all_order : T (each_two (λ r q. before (decode r) (decode q)) (map encode xs))
    all_order =
        rw (two_map (λ r q. before (decode r) (decode q)) encode xs)
        (two_weaker before (λ x y. before (decode (encode x)) (decode (encode y))) coded (λ x y u v w. rw (back x u, back y v) w) xs c order)

    chunk_is : (j : ℕ) → j < length xs → chunk j (slots encode m xs) ≡ get_or (map encode xs) j []
    unfolding slots
    chunk_is j h =
        sym (record_there (length xs) (slots encode m xs) j h)
        ∙ ap (λ (rs : List (List ℕ)). get_or rs j []) (records_flat encode wide xs (zeros (16 * (m - length xs))))

    after_is : (j : ℕ) → j < length xs → T (comes_after decode before (slots encode m xs) j)
    unfolding comes_after
    after_is zero h = tt
    after_is (suc j) h =
        let b = slots encode m xs in
        let e : suc j - 1 ≡ j = omega arith in
        or_r (eqb (suc j) 0) (before (decode (chunk (suc j - 1) b)) (decode (chunk (suc j) b)))
        (rw (e, chunk_is j (omega arith), chunk_is (suc j) h)
        (two_next [] (λ r q. before (decode r) (decode q)) (map encode xs) j all_order (omega (arith, length-map xs encode))))

    pub slots_out : T (slots_passes encode decode ok before (length xs) (slots encode m xs))
    unfolding slots_passes records_pass slots
    slots_out =
        both (records_pass encode decode ok before (length xs) (slots encode m xs)) (blank (drop (16 * length xs) (slots encode m xs)))
        (test_index (λ i. passes (chunk i (slots encode m xs)) && comes_after decode before (slots encode m xs) i) (length xs) 0 one)
        (rw (drop_at (flat_map encode xs) (zeros (16 * (m - length xs))) (16 * length xs) (flat_length encode wide xs)) (zeros_blank (16 * (m - length xs))))
      where
        one : (j : ℕ) → j < length xs → T (passes (chunk (0 + j) (slots encode m xs)) && comes_after decode before (slots encode m xs) (0 + j))
        one j h =
            rw (zero-add j)
            (both (passes (chunk j (slots encode m xs))) (comes_after decode before (slots encode m xs) j)
            (rw (chunk_is j h) (every_at passes (map encode xs) j [] all_pass (omega (arith, length-map xs encode)))) (after_is j h))

-- a page that passes is good

module _ (n : Network) (s : Station) (page : List ℕ) (size : length page ≡ 512) (few : get_or page 0 0 ≤ 24) (pairs : get_or page 1 0 ≤ 6)
    (t : T (content_passes n s page)) where
  abbrev visit_part : List ℕ
  visit_part = take 384 (drop 32 page)

  abbrev relation_part : List ℕ
  relation_part = take 96 (drop 416 page)

  entries : List Entry
  entries = map decode_entry (records_of (get_or page 0 0) visit_part)

  kept_relations : List Relation
  kept_relations = map decode_relation (records_of (get_or page 1 0) relation_part)

  head_zeros : take 30 (drop 2 page) ≡ zeros 30
  unfolding content_passes
  head_zeros =
      blank_zeros (take 30 (drop 2 page)) (search parts)
      ∙ ap zeros (length-take-le 30 (drop 2 page) (omega (arith, length-drop 2 page)))

  visits_slotted : Slotted encode_entry decode_entry (entry_good n s) earlier entry_length (smaller_across number) (get_or page 0 0) 24 visit_part
  unfolding content_passes visits_pass
  visits_slotted =
      slots_in encode_entry decode_entry (entry_good n s) earlier entry_length (smaller_across number) (get_or page 0 0) 24 visit_part
      (length-take-le 384 (drop 32 page) (omega (arith, length-drop 32 page))) few (search parts)

  relations_slotted : Slotted encode_relation decode_relation relation_ok precedes relation_length precedes_across (get_or page 1 0) 6 relation_part
  unfolding content_passes relations_pass
  relations_slotted =
      slots_in encode_relation decode_relation relation_ok precedes relation_length precedes_across (get_or page 1 0) 6 relation_part
      (length-take-le 96 (drop 416 page) (omega (arith, length-drop 416 page))) pairs (search parts)

  entries_count : length entries ≡ get_or page 0 0
  unfolding entries
  entries_count = length-map (records_of (get_or page 0 0) visit_part) decode_entry ∙ length_records (get_or page 0 0) visit_part

  relations_count : length kept_relations ≡ get_or page 1 0
  unfolding kept_relations
  relations_count = length-map (records_of (get_or page 1 0) relation_part) decode_relation ∙ length_records (get_or page 1 0) relation_part

  table_is : decode_page page ≡ record { visits = entries; relations = kept_relations }
  unfolding decode_page visits_of relations_of visit_records relation_records entries kept_relations
  table_is =
      let v : records_of (min (get_or page 0 0) 24) (drop 32 page) ≡ records_of (get_or page 0 0) visit_part =
      ap (λ (k : ℕ). records_of k (drop 32 page)) (min-eq_left few) ∙ sym (records_cut (get_or page 0 0) 24 (drop 32 page) few) in
      let r : records_of (min (get_or page 1 0) 6) (drop 416 page) ≡ records_of (get_or page 1 0) relation_part =
      ap (λ (k : ℕ). records_of k (drop 416 page)) (min-eq_left pairs) ∙ sym (records_cut (get_or page 1 0) 6 (drop 416 page) pairs) in
      λ i. record { visits = map decode_entry (v i); relations = map decode_relation (r i) }

  bytes_are : page ≡ encode_page (record { visits = entries; relations = kept_relations })
  unfolding encode_page entries kept_relations
  bytes_are =
      let last : drop 416 page ≡ relation_part = sym (take_all 96 (drop 416 page) (omega (arith, length-drop 416 page))) in
      let mid : drop 32 page ≡ visit_part ++ relation_part =
      sym (take-append-drop 384 (drop 32 page)) ∙ ap (λ (q : List ℕ). visit_part ++ q) (drop-drop 384 32 page ∙ last) in
      let head : drop 2 page ≡ zeros 30 ++ (visit_part ++ relation_part) =
      sym (take-append-drop 30 (drop 2 page)) ∙ ap₂ ◌++◌ head_zeros (drop-drop 30 2 page ∙ mid) in
      let front : page ≡ get_or page 0 0 ∷ get_or page 1 0 ∷ drop 2 page =
      drop-cons page 0 0 (omega arith) ∙ ap (λ (q : List ℕ). get_or page 0 0 ∷ q) (drop-cons page 1 0 (omega arith)) in
      front ∙ (λ i. sym entries_count i ∷ sym relations_count i ∷ head i)
      ∙ ap₂ (λ (v r : List ℕ). length entries ∷ length kept_relations ∷ (zeros 30 ++ (v ++ r))) visits_slotted.bytes relations_slotted.bytes

  table_passes : T (table_good n s (record { visits = entries; relations = kept_relations }))
  unfolding entries kept_relations
  table_passes =
      table_fits n s (record { visits = entries; relations = kept_relations }) (record {
        visits = record { few = omega (arith, entries_count); order = visits_slotted.order; each = visits_slotted.each };
        relations = record { few = omega (arith, relations_count); order = relations_slotted.order; each = relations_slotted.each };
      })

  content_good : T (good_page n s page)
  unfolding good_page
  content_good =
      both (same page (encode_page (decode_page page))) (table_good n s (decode_page page))
      (rw table_is (rw (← bytes_are) (same_refl page)))
      (rw table_is table_passes)

-- the page of a good table passes

module _ (n : Network) (s : Station) (tab : Table) (t : T (table_good n s tab)) where
  coded : Coded tab
  coded = good_coded n s tab t

  visit_slots_passes : T (visits_pass n s (length tab.visits) (slots encode_entry 24 tab.visits))
  unfolding visits_pass
  visit_slots_passes =
      let g = table_facts n s tab t in
      slots_out encode_entry decode_entry (entry_good n s) earlier entry_length (smaller_across number) linked entry_back 24 tab.visits
      coded.visits coded.links g.visits.each g.visits.order

  relation_slots_passes : T (relations_pass (length tab.relations) (slots encode_relation 6 tab.relations))
  unfolding relations_pass always
  relation_slots_passes =
      let g = table_facts n s tab t in
      slots_out encode_relation decode_relation relation_ok precedes relation_length precedes_across always (λ r u. relation_back r) 6 tab.relations
      coded.relations (every_true tab.relations) g.relations.each g.relations.order

  encoded_passes : T (page_passes n s (encode_page tab))
  unfolding page_passes content_passes encode_page blank every
  encoded_passes =
      let page = encode_page tab in
      let visits : take 384 (drop 32 page) ≡ slots encode_entry 24 tab.visits =
      take_at (slots encode_entry 24 tab.visits) (slots encode_relation 6 tab.relations) 384 (slots_length encode_entry entry_length 24 tab.visits coded.visits) in
      let relations : take 96 (drop 416 page) ≡ slots encode_relation 6 tab.relations =
      ap (take 96) (relations_behind tab coded)
      ∙ take_all 96 (slots encode_relation 6 tab.relations) (omega (arith, slots_length encode_relation relation_length 6 tab.relations coded.relations)) in
      let size : T (eqb (length page) 512) = true_T (eqb (length page) 512) (eq-eqb (length page) 512 (page_length tab coded)) in
      let few : T (leb (length tab.visits) 24) = le→leb (length tab.visits) 24 coded.visits in
      let pairs : T (leb (length tab.relations) 6) = le→leb (length tab.relations) 6 coded.relations in
      let v : T (visits_pass n s (length tab.visits) (take 384 (drop 32 page))) = rw visits visit_slots_passes in
      let r : T (relations_pass (length tab.relations) (take 96 (drop 416 page))) = rw relations relation_slots_passes in
      search both

-- the test of a page decides whether it is good, whatever its bytes
pub page_test : (n : Network) (s : Station) (page : List ℕ) → page_passes n s page ≡ good_page n s page
unfolding page_passes
page_test n s page = same_test (page_passes n s page) (good_page n s page) sound complete
  where
    sound : T (page_passes n s page) → T (good_page n s page)
    sound t =
        let size : T (eqb (length page) 512) = search parts in
        let few : T (leb (get_or page 0 0) 24) = search parts in
        let pairs : T (leb (get_or page 1 0) 6) = search parts in
        content_good n s page (eqb→eq (length page) 512 size) (leb→le (get_or page 0 0) 24 few) (leb→le (get_or page 1 0) 6 pairs) (search parts)

    complete : T (good_page n s page) → T (page_passes n s page)
    complete t = rw (good_bytes n s page t) (encoded_passes n s (decode_page page) (good_table n s page t))

-- what the code's tests say, one by one

pub same_not : (a b : List ℕ) → ¬ (length a ≡ length b) → same a b ≡ false
same_not a b d = T_false (same a b) (λ t. d (ap length (same_equal a b t)))

pub links_pass : (n : Network) (s : Station) (v : Visit) → links_good n s v ≡ (in_passes n s v.inward && out_passes n s v.outward)
unfolding links_good ins outs in_passes out_passes every
links_pass n s v = ap₂ (λ (a b : Bool). a && b) (into v.inward) (onto v.outward)
  where
    and_true : (b : Bool) → (b && true) ≡ b
    and_true true = refl
    and_true false = refl

    into : (l : InLink) → every (in_good n s) (elim l [ InLink.Nothing ↦ [] | InLink.From i ↦ i ∷ [] ]) ≡ in_passes n s l
    into InLink.Nothing = refl
    into (InLink.From i) = and_true (in_good n s i)

    onto : (l : OutLink) → every (out_good n s) (elim l [ OutLink.Nothing ↦ [] | OutLink.To o ↦ o ∷ [] ]) ≡ out_passes n s l
    onto OutLink.Nothing = refl
    onto (OutLink.To o) = and_true (out_good n s o)

-- the part of 16 bytes from a place on, as the code cuts it
pub cut_chunk : (b : List ℕ) (i : ℕ) → take (16 * i + 16 - 16 * i) (drop (16 * i) b) ≡ chunk i b
cut_chunk b i = rw (add-sub_cancel_left (16 * i) 16)

-- the train of the record before an index, 0 before the first: trains that pass are above it
unfoldable pub train_before : List ℕ → ℕ → ℕ
train_before b i = 0 if eqb i 0 else (decode_train (chunk (i - 1) b)).0

module _ (b : List ℕ) (i : ℕ) where
  module _ (n : Network) (s : Station) (t : ℕ) (p : t ≡ passing_train n s (take (16 * i + 16 - 16 * i) (drop (16 * i) b))) where
    -- the train of a record that passes is the one before the next index
    pub train_kept : (visit_passes n s (chunk i b) && train_after b i) ≡ true → t ≡ train_before b (i + 1)
    unfolding train_before passing_train
    train_kept e =
        let both = true_T (visit_passes n s (chunk i b) && train_after b i) e in
        let good = T_true (visit_passes n s (chunk i b)) (and_l (visit_passes n s (chunk i b)) (train_after b i) both) in
        let z : i + 1 - 1 ≡ i = omega arith in
        rw (p, cut_chunk b i, good, ne_eqb (i + 1) 0 (omega arith), z)

    pub train_next : ltb (train_before b i) t ≡ (visit_passes n s (chunk i b) && train_after b i)
    unfolding train_before train_after comes_after decode_entry visit_passes record_passes entry_good passing_train
    train_next = rw (p, cut_chunk b i) (go (visit_passes n s (chunk i b)) refl)
      where
        first : 1 ≤ (decode_train (chunk i b)).0 → (e : Bool)
            → ltb (0 if e else (decode_train (chunk (i - 1) b)).0) (decode_train (chunk i b)).0 ≡ (e || ltb (decode_train (chunk (i - 1) b)).0 (decode_train (chunk i b)).0)
        first h true = lt-ltb 0 (decode_train (chunk i b)).0 (omega arith)
        first h false = refl

        above : T (visit_passes n s (chunk i b)) → ltb (train_before b i) (decode_train (chunk i b)).0 ≡ train_after b i
        above u =
            let some : T (leb 1 (decode_train (chunk i b)).0) = search parts in
            first (leb→le 1 (decode_train (chunk i b)).0 some) (eqb i 0)

        go : (e : Bool) → visit_passes n s (chunk i b) ≡ e → ltb (train_before b i) ((decode_train (chunk i b)).0 if e else 0) ≡ (e && train_after b i)
        go true e = above (true_T (visit_passes n s (chunk i b)) e)
        go false e = le-ltb (train_before b i) 0 (omega arith)

  pub kept_next : (q : Relation) → q ≡ decode_relation (take (16 * i + 16 - 16 * i) (drop (16 * i) b)) → q ≡ decode_relation (chunk (i + 1 - 1) b)
  kept_next q p =
      let z : i + 1 - 1 ≡ i = omega arith in
      rw (z, p, cut_chunk b i)

  -- the relation of the record before an index; before the first there is none
  pub relation_next : (r q : Relation) → (¬ (i ≡ 0) → r ≡ decode_relation (chunk (i - 1) b)) → q ≡ decode_relation (take (16 * i + 16 - 16 * i) (drop (16 * i) b))
      → (eqb i 0 || precedes r q) ≡ relation_after b i
  unfolding relation_after comes_after
  relation_next r q p v = by_value (eqb i 0) (λ e. rw e) (λ e. rw (e, p (eqb-false i 0 e), v, cut_chunk b i))

-- the tests that the code makes one after the other, joined

pub visit_tests : (n : Network) (s : Station) (v : Visit) (a b c : Bool) → a ≡ values_good n s v → b ≡ in_passes n s v.inward → c ≡ out_passes n s v.outward
    → (a && (b && c)) ≡ visit_good n s v
unfolding visit_good
visit_tests n s v a b c p q r = rw (p, q, r, links_pass n s v)

pub visit_record_tests : (n : Network) (s : Station) (r own : List ℕ) (t : Train) (v : Visit) → t ≡ decode_train r → v ≡ decode_visit r → own ≡ visit_bytes t v
    → (a b c : Bool) → a ≡ same r own → b ≡ train_ok t → c ≡ visit_good n s v → (a && (b && c)) ≡ visit_passes n s r
unfolding visit_passes record_passes encode_entry decode_entry entry_good
visit_record_tests n s r own t v e f o a b c p q w = rw (p, q, w, o, e, f)

-- so the train, or 0
pub train_tests : (r own : List ℕ) (t : Train) (v : Visit) → t ≡ decode_train r → v ≡ decode_visit r → own ≡ visit_bytes t v
    → (a b fits : Bool) → a ≡ same r own → b ≡ train_ok t → (t.0 if a && (b && fits) else 0) ≡ train_if fits r
unfolding train_if
train_tests r own t v e f o a b fits p q = rw (p, q, o, e, f)

pub train_passing : (n : Network) (s : Station) (r : List ℕ) (v : Visit) → v ≡ decode_visit r → (fits : Bool) → fits ≡ visit_good n s v
    → train_if fits r ≡ passing_train n s r
unfolding train_if passing_train
train_passing n s r v e fits p =
    rw (visit_record_tests n s r (visit_bytes (decode_train r) (decode_visit r)) (decode_train r) (decode_visit r) refl refl refl _ _ fits refl refl (p ∙ ap (visit_good n s) e))

pub relation_record_tests : (r own : List ℕ) (q : Relation) → q ≡ decode_relation r → own ≡ encode_relation q
    → (a b : Bool) → a ≡ same r own → b ≡ relation_ok q → (a && b) ≡ relation_passes r
unfolding relation_passes record_passes
relation_record_tests r own q e o a b p w = rw (p, w, o, e)

-- indexes from i on, below n, that pass two tests

unfoldable pub all_from : (ℕ → Bool) → (ℕ → Bool) → ℕ → ℕ → Bool
all_from f g n i = each_index (λ j. f j && g j) (n - i) i

module _ (f g : ℕ → Bool) (n i : ℕ) where
  from_next : i < n → all_from f g n i ≡ ((f i && g i) && all_from f g n (i + 1))
  unfolding all_from each_index
  from_next h = let e : n - i ≡ suc (n - (i + 1)) = omega arith in ap (λ (k : ℕ). each_index (λ j. f j && g j) k i) e

  pub from_first_not : i < n → f i ≡ false → all_from f g n i ≡ false
  from_first_not h p = from_next h ∙ rw p

  pub from_second_not : i < n → f i ≡ true → g i ≡ false → all_from f g n i ≡ false
  from_second_not h p q = from_next h ∙ rw (p, q)

  pub from_on : i < n → f i ≡ true → g i ≡ true → all_from f g n i ≡ all_from f g n (i + 1)
  from_on h p q = from_next h ∙ rw (p, q)

  -- two tests decided at once
  pub from_not : i < n → (f i && g i) ≡ false → all_from f g n i ≡ false
  from_not h p = from_next h ∙ rw p

  pub from_both : i < n → (f i && g i) ≡ true → all_from f g n i ≡ all_from f g n (i + 1)
  from_both h p = from_next h ∙ rw p

  pub from_end : n ≤ i → all_from f g n i ≡ true
  unfolding all_from each_index
  from_end h = let e : n - i ≡ 0 = omega arith in ap (λ (k : ℕ). each_index (λ j. f j && g j) k i) e

pub visit_run_start : (n : Network) (s : Station) (k : ℕ) (b : List ℕ) → visit_run n s k b ≡ all_from (λ j. visit_passes n s (chunk j b)) (train_after b) k 0
unfolding visit_run records_pass all_from visit_passes train_after
visit_run_start n s k b = rw (sub-zero k)

pub relation_run_start : (k : ℕ) (b : List ℕ) → relation_run k b ≡ all_from (λ j. relation_passes (chunk j b)) (relation_after b) k 0
unfolding relation_run records_pass all_from relation_passes relation_after
relation_run_start k b = rw (sub-zero k)

-- slots

rest_is : (b : List ℕ) (k : ℕ) → take (length b - 16 * k) (drop (16 * k) b) ≡ drop (16 * k) b
rest_is b k = take_all (length b - 16 * k) (drop (16 * k) b) (omega (arith, length-drop (16 * k) b))

pub visits_tests : (n : Network) (s : Station) (k : ℕ) (b : List ℕ) (x y : Bool) → x ≡ visit_run n s k b → y ≡ blank (take (length b - 16 * k) (drop (16 * k) b))
    → (x && y) ≡ visits_pass n s k b
unfolding visits_pass slots_passes visit_run
visits_tests n s k b x y p q = rw (p, q, rest_is b k)

pub relations_tests : (k : ℕ) (b : List ℕ) (x y : Bool) → x ≡ relation_run k b → y ≡ blank (take (length b - 16 * k) (drop (16 * k) b))
    → (x && y) ≡ relations_pass k b
unfolding relations_pass slots_passes relation_run
relations_tests k b x y p q = rw (p, q, rest_is b k)

-- a page

module _ (n : Network) (s : Station) (page : List ℕ) where
  pub page_short : ¬ (length page ≡ 512) → false ≡ good_page n s page
  unfolding page_passes
  page_short d = rw (ne_eqb (length page) 512 d) at (page_test n s page)

  module _ (size : length page ≡ 512) (k m : ℕ) (p : k ≡ get_or page 0 0) (q : m ≡ get_or page 1 0) where
    pub page_many : 24 < k → false ≡ good_page n s page
    unfolding page_passes
    page_many h = rw (eq-eqb (length page) 512 size, ← p, lt-leb k 24 h) at (page_test n s page)

    pub page_related : k ≤ 24 → 6 < m → false ≡ good_page n s page
    unfolding page_passes
    page_related h g = rw (eq-eqb (length page) 512 size, ← p, ← q, le-leb k 24 h, lt-leb m 6 g) at (page_test n s page)

    pub page_tests : k ≤ 24 → m ≤ 6 → (x y z : Bool) → x ≡ blank (take 30 (drop 2 page)) → y ≡ visits_pass n s k (take 384 (drop 32 page))
        → z ≡ relations_pass m (take 96 (drop 416 page)) → (x && (y && z)) ≡ good_page n s page
    unfolding page_passes content_passes
    page_tests h g x y z a b c =
        rw (a, b, c) (rw (eq-eqb (length page) 512 size, ← p, ← q, le-leb k 24 h, le-leb m 6 g) at (page_test n s page))

-- sheets

pub over_all : (n : Network) → covers n Extent.Whole ≡ listed n
unfolding covers
over_all n = fun_ext λ k. refl

pub over_own : (n : Network) (a : Area) → 0 < a.0 → covers n (Extent.Of a) ≡ (λ k. listed n k && in_group (area_of n) a.0 k)
unfolding covers in_group
over_own n a h = fun_ext λ k. rw (lt-ltb 0 a.0 h)

-- the test of a sheet of 8,192 bytes: of all listed stations, or of one area's
pub whole_test : (n : Network) (sheet : List ℕ) → length sheet ≡ 8192 → sheet_passes n Extent.Whole sheet ≡ good_sheet n (listed n) sheet
unfolding sheet_passes
whole_test n sheet size = rw (eq-eqb (length sheet) 8192 size, over_all n)

pub area_test : (n : Network) (a : Area) (sheet : List ℕ) → 0 < a.0 → length sheet ≡ 8192
    → sheet_passes n (Extent.Of a) sheet ≡ good_sheet n (λ k. listed n k && in_group (area_of n) a.0 k) sheet
unfolding sheet_passes
area_test n a sheet h size = rw (eq-eqb (length sheet) 8192 size, over_own n a h)

pub place_over : (n : Network) (a : Extent) (k : Station) (page : List ℕ) (o : Bool) → o ≡ covers n a k → o ≡ true → good_page n k page ≡ place_passes n a k page
unfolding place_passes
place_over n a k page o p e = rw (← p, e)

pub place_bare : (n : Network) (a : Extent) (k : Station) (page : List ℕ) (o : Bool) → o ≡ covers n a k → o ≡ false → blank page ≡ place_passes n a k page
unfolding place_passes
place_bare n a k page o p e = rw (← p, e)

-- the pages of a sheet from an index on
unfoldable pub places_from : Network → Extent → List ℕ → ℕ → Bool
places_from n a sheet i = every (λ k. place_passes n a k (page_at sheet k)) (drop i sixteen)

module _ (n : Network) (a : Extent) (sheet : List ℕ) where
  pub sheet_short : ¬ (length sheet ≡ 8192) → false ≡ sheet_passes n a sheet
  unfolding sheet_passes
  sheet_short d = rw (ne_eqb (length sheet) 8192 d)

  pub places_start : length sheet ≡ 8192 → sheet_passes n a sheet ≡ places_from n a sheet 0
  unfolding sheet_passes places_from place_passes good_sheet
  places_start size = rw (eq-eqb (length sheet) 8192 size)

  module _ (i k : ℕ) (e : k ≡ i + 1) where
    places_next : i < 16 → places_from n a sheet i ≡ (place_passes n a (mk k) (take (512 * i + 512 - 512 * i) (drop (512 * i) sheet)) && places_from n a sheet (i + 1))
    unfolding places_from page_at
    places_next h =
        let f : Station → Bool = λ j. place_passes n a j (page_at sheet j) in
        let z : i + 1 - 1 ≡ i = omega arith in
        every_next f sixteen i (mk 0) (sixteen_long i h)
        ∙ ap (λ (j : Station). f j && every f (drop (i + 1) sixteen)) (station_at i h)
        ∙ ap (λ (j : ℕ). place_passes n a (mk (i + 1)) (take 512 (drop (512 * j) sheet)) && every f (drop (i + 1) sixteen)) z
        ∙ rw (e, add-sub_cancel_left (512 * i) 512)

    pub places_not : i < 16 → place_passes n a (mk k) (take (512 * i + 512 - 512 * i) (drop (512 * i) sheet)) ≡ false → places_from n a sheet i ≡ false
    places_not h p = places_next h ∙ rw p

    pub places_on : i < 16 → place_passes n a (mk k) (take (512 * i + 512 - 512 * i) (drop (512 * i) sheet)) ≡ true
        → places_from n a sheet i ≡ places_from n a sheet (i + 1)
    places_on h p = places_next h ∙ rw p

  pub places_end : (i : ℕ) → 16 ≤ i → places_from n a sheet i ≡ true
  unfolding places_from every sixteen
  places_end i h = rw (drop_of_length-le sixteen {i = i} h)

-- the sheets of a division from an index on
unfoldable pub sheets_from : Network → List ℕ → ℕ → Bool
sheets_from n division i = every (λ a. good_sheet n (λ k. listed n k && in_group (area_of n) a k) (sheet_at division a)) (drop i six)

module _ (n : Network) (division : List ℕ) where
  pub division_short : ¬ (length division ≡ 49152) → false ≡ division_passes n division
  unfolding division_passes
  division_short d = rw (ne_eqb (length division) 49152 d)

  module _ (size : length division ≡ 49152) where
    pub sheets_start : division_passes n division ≡ sheets_from n division 0
    unfolding division_passes sheets_from good_division
    sheets_start = rw (eq-eqb (length division) 49152 size)

    module _ (i a : ℕ) (e : a ≡ i + 1) where
      sheets_next : i < 6 → sheets_from n division i
          ≡ (sheet_passes n (Extent.Of (record { 0 = a })) (take (8192 * i + 8192 - 8192 * i) (drop (8192 * i) division)) && sheets_from n division (i + 1))
      unfolding sheets_from sheet_at sheet_passes
      sheets_next h =
          let f : ℕ → Bool = λ b. good_sheet n (λ k. listed n k && in_group (area_of n) b k) (sheet_at division b) in
          let part = take (8192 * i + 8192 - 8192 * i) (drop (8192 * i) division) in
          let z : i + 1 - 1 ≡ i = omega arith in
          let l : length part ≡ 8192 = part_size division (8192 * i) 8192 (omega arith) in
          let c : take 8192 (drop (8192 * i) division) ≡ part = sym (rw (add-sub_cancel_left (8192 * i) 8192)) in
          every_next f six i 0 h
          ∙ ap (λ (b : ℕ). f b && every f (drop (i + 1) six)) (area_at i h ∙ sym e)
          ∙ ap (λ (j : ℕ). good_sheet n (λ k. listed n k && in_group (area_of n) a k) (take 8192 (drop (8192 * j) division)) && every f (drop (i + 1) six)) (ap (λ (b : ℕ). b - 1) e ∙ z)
          ∙ ap (λ (b : List ℕ). good_sheet n (λ k. listed n k && in_group (area_of n) a k) b && every f (drop (i + 1) six)) c
          ∙ sym (rw (eq-eqb (length part) 8192 l, over_own n (record { 0 = a }) (omega arith)))

      pub sheets_not : i < 6 → sheet_passes n (Extent.Of (record { 0 = a })) (take (8192 * i + 8192 - 8192 * i) (drop (8192 * i) division)) ≡ false → sheets_from n division i ≡ false
      sheets_not h p = sheets_next h ∙ rw p

      pub sheets_on : i < 6 → sheet_passes n (Extent.Of (record { 0 = a })) (take (8192 * i + 8192 - 8192 * i) (drop (8192 * i) division)) ≡ true
          → sheets_from n division i ≡ sheets_from n division (i + 1)
      sheets_on h p = sheets_next h ∙ rw p

  pub sheets_end : (i : ℕ) → 6 ≤ i → sheets_from n division i ≡ true
  unfolding sheets_from every
  sheets_end i h = rw (drop_of_length-le six {i = i} h)
