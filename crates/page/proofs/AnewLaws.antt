-- The relations anew: a relation put on a row of slots of six is the list's `insert`, where the list is in order, and
-- from the last record to the first this gives the list without the train. Assumes nothing.
use Prim.Native.Nat.{ℕ, ◌+◌, ◌*◌, ◌-◌, ◌≤◌, ◌<◌, min}
use mathlib.Core.Path.{◌≡◌, refl, sym, ap, ◌∙◌}
use mathlib.Core.Bool.{Bool, true, false, ◌||◌}
use mathlib.Core.List.{List, [], ◌∷◌, ◌++◌, map, flat_map, append-nil}
use Rattle.std.specs.Prelude.{Option, None, Some}
use native.Mathlib.Omega.{arith}
use lib.Dec.{T, ltb}
use lib.ListN.{length, get_or, set, take, drop, length-append, length-drop, length-map, drop_of_length-le, get_or-map}
use lib.Seq.{length-take-le, take_all}
use Rattle.std.specs.Prelude.{if◌then◌else◌}
use Rattle.base.specs.Lists.{any, every, each_two, same}
use Rattle.base.proofs.Lengths.{drop_next}
use Rattle.base.proofs.Sorted.{two_head, two_tail, same_equal, below_itself, below_trans}
use Rattle.base.proofs.Tests.{T_false, true_T, by_value, every_head, every_tail}
use Rattle.railway.specs.Relations.{key, precedes, same_relation}
use Rattle.timetable.specs.Tables.{insert, insert_if, lose, lose_all}
use Rattle.timetable.proofs.TableLaws.{lose_all_length, lose_all_order}
use Rattle.records.specs.Bytes.{zeros}
use Rattle.records.specs.Records.{encode_relation, decode_relation}
use Rattle.records.proofs.RecordLaws.{relation_length}
use Rattle.page.specs.Types.{Train, Relation}
use Rattle.page.specs.Pages.{slots, records_of, relation_records, relations_of}
use Rattle.page.specs.between.Changes.{index_of, counts_to, put_in, is_slotted, slotted, slotted_count, slotted_left, left_count, page_lose_train}
use Rattle.page.proofs.SlotLaws.{length_records, record_there, index_most, any_index}
use Rattle.page.proofs.RecordsPut.{counts_few}
use Rattle.page.proofs.FlatLaws.{records_slots, put_slots}
use Rattle.page.proofs.ChangeLaws.{insert_cut, relations_read}

-- what comes before the first of a list in order is not in it
not_among : (q x : Relation) (xs : List Relation) → T (precedes q x) → T (every (precedes x) xs) → any (same_relation q) xs ≡ false
unfolding any every precedes same_relation
not_among q x [] t o = refl
not_among q x (y ∷ ys) t o =
    let other : same (key q) (key y) ≡ false = T_false (same (key q) (key y)) (λ s.
    below_itself (key q) (below_trans (key q) (key x) (key q) t (rw (same_equal (key q) (key y) s) (every_head (precedes x) y ys o)))) in
    rw (other, not_among q x ys t (every_tail (precedes x) y ys o))

-- and it is no other than itself
itself : (q x : Relation) → T (precedes q x) → same_relation q x ≡ true → ⊥
unfolding precedes same_relation
itself q x t e = below_itself (key q) (rw (sym (same_equal (key q) (key x) (true_T (same (key q) (key x)) e))) at t)

-- a relation that is there stays one
insert_there : (q : Relation) (rs : List Relation) → T (each_two precedes rs) → any (same_relation q) rs ≡ true → insert q rs ≡ rs
unfolding insert any
insert_there q [] o t = absurd (true_T false t)
insert_there q (x ∷ xs) o t = go (precedes q x) refl (same_relation q x) refl t (insert_there q xs (two_tail precedes x xs o))
  where
    go : (b : Bool) → precedes q x ≡ b → (d : Bool) → same_relation q x ≡ d → (d || any (same_relation q) xs) ≡ true
        → (any (same_relation q) xs ≡ true → insert q xs ≡ xs) → (if b then q ∷ x ∷ xs else (if d then x ∷ xs else (x ∷ insert q xs))) ≡ x ∷ xs
    go true p true s m ih = absurd (itself q x (true_T (precedes q x) p) s)
    go true p false s m ih = absurd (true_T false (sym (not_among q x xs (true_T (precedes q x) p) (two_head precedes x xs o)) ∙ m))
    go false p true s m ih = refl
    go false p false s m ih = ap (λ r. x ∷ r) (ih m)

-- on the slots of a list in order

module _ (q : Relation) (rs : List Relation) (o : T (each_two precedes rs)) (few : length rs < 6) where
  on_slots : records_of (length rs) (slots encode_relation 6 rs) ≡ map encode_relation rs
  on_slots = ap (records_of (length rs)) (sym (append-nil (slots encode_relation 6 rs))) ∙ records_slots encode_relation relation_length 6 rs []

  there : is_slotted q (length rs) (slots encode_relation 6 rs) ≡ any (same_relation q) rs
  unfolding is_slotted
  there =
      let many = length-map rs encode_relation in
      rw on_slots (ap (ltb (index_of (λ r. same_relation q (decode_relation r)) (map encode_relation rs))) (sym many)
      ∙ sym (any_index (same_relation q) decode_relation (map encode_relation rs)) ∙ ap (any (same_relation q)) (relations_read rs))

  pub slotted_list : slotted q (length rs) (slots encode_relation 6 rs) ≡ slots encode_relation 6 (insert q rs)
  unfolding slotted
  slotted_list = by_value (any (same_relation q) rs)
      (λ e. rw (there, e, insert_there q rs o e))
      (λ e.
      let f : List ℕ → Bool = λ r. precedes q (decode_relation r) in
      let i = index_of f (map encode_relation rs) in
      let inside : i ≤ length rs = omega (arith, index_most f (map encode_relation rs), length-map rs encode_relation) in
      rw (there, e, on_slots, insert_cut q rs e)
      (ap (put_in (length rs) i (encode_relation q)) (sym (append-nil (slots encode_relation 6 rs)))
      ∙ put_slots encode_relation relation_length 6 rs q i [] inside few ∙ append-nil (slots encode_relation 6 (take i rs ++ (q ∷ drop i rs)))))

  pub slotted_many : slotted_count q (length rs) (slots encode_relation 6 rs) ≡ length (insert q rs)
  unfolding slotted_count
  slotted_many = by_value (any (same_relation q) rs)
      (λ e. rw (there, e, insert_there q rs o e))
      (λ e.
      let f : List ℕ → Bool = λ r. precedes q (decode_relation r) in
      let i = index_of f (map encode_relation rs) in
      let inside : i ≤ length rs = omega (arith, index_most f (map encode_relation rs), length-map rs encode_relation) in
      rw (there, e, insert_cut q rs e)
      (sym (length-append (take i rs) (q ∷ drop i rs) ∙ omega (arith, length-take-le i rs inside, length-drop i rs))))

-- what is left of a relation

left_list : (m : Option Relation) (rs : List Relation) → T (each_two precedes rs) → length rs < 6
    → slotted_left m (length rs) (slots encode_relation 6 rs) ≡ slots encode_relation 6 (insert_if m rs)
unfolding slotted_left insert_if
left_list None rs o few = refl
left_list (Some q) rs o few = slotted_list q rs o few

left_many : (m : Option Relation) (rs : List Relation) → T (each_two precedes rs) → length rs < 6
    → left_count m (length rs) (slots encode_relation 6 rs) ≡ length (insert_if m rs)
unfolding left_count insert_if
left_many None rs o few = refl
left_many (Some q) rs o few = slotted_many q rs o few

-- from the last record to the first

module _ (t : Train) (from : List ℕ) (n : ℕ) where
  -- what is left of the relations from index k on
  abbrev pub rest_from : ℕ → List Relation
  rest_from k = lose_all t (drop k (map decode_relation (records_of n from)))

  pub rest_few : (k : ℕ) → length (rest_from k) ≤ n - k
  rest_few k =
      let rs = map decode_relation (records_of n from) in
      omega (arith, lose_all_length t (drop k rs), length-drop k rs, length-map (records_of n from) decode_relation, length_records n from)

  pub rest_none : rest_from n ≡ []
  unfolding lose_all
  rest_none =
      let rs = map decode_relation (records_of n from) in
      rw (drop_of_length-le rs {i = n} (omega (arith, length-map (records_of n from) decode_relation, length_records n from)))

  rest_next : (k : ℕ) → 0 < k → k ≤ n → rest_from (k - 1) ≡ insert_if (lose t (decode_relation (take 16 (drop (16 * (k - 1)) from)))) (rest_from k)
  unfolding lose_all
  rest_next k h l =
      let rs = map decode_relation (records_of n from) in
      let inside : k - 1 < length rs = omega (arith, length-map (records_of n from) decode_relation, length_records n from) in
      let one : k - 1 + 1 ≡ k = omega arith in
      let here : get_or rs (k - 1) (decode_relation []) ≡ decode_relation (take 16 (drop (16 * (k - 1)) from)) =
      get_or-map decode_relation (records_of n from) (k - 1) [] ∙ ap decode_relation (record_there n from (k - 1) (omega arith)) in
      rw (drop_next rs (k - 1) (decode_relation []) inside, here, one)

  -- a turn of the loop that goes from index k to k - 1
  module _ (k : ℕ) (h : 0 < k) (l : k ≤ n) (six : n ≤ 6) (rest : Option Relation) (b : List ℕ) (m : ℕ) (slots-is : b ≡ slots encode_relation 6 (rest_from k))
      (count-is : m ≡ length (rest_from k)) (rest_is : rest ≡ lose t (decode_relation (take 16 (drop (16 * (k - 1)) from)))) where
    pub anew_list : slotted_left rest m b ≡ slots encode_relation 6 (rest_from (k - 1))
    anew_list =
        let rs = drop k (map decode_relation (records_of n from)) in
        rw (slots-is, count-is, rest_is, rest_next k h l)
        (left_list (lose t (decode_relation (take 16 (drop (16 * (k - 1)) from)))) (rest_from k) (lose_all_order t rs) (omega (arith, rest_few k)))

    pub anew_many : left_count rest m b ≡ length (rest_from (k - 1))
    anew_many =
        let rs = drop k (map decode_relation (records_of n from)) in
        rw (slots-is, count-is, rest_is, rest_next k h l)
        (left_many (lose t (decode_relation (take 16 (drop (16 * (k - 1)) from)))) (rest_from k) (lose_all_order t rs) (omega (arith, rest_few k)))

-- nothing yet
pub empty_slots : zeros 96 ≡ slots encode_relation 6 []
unfolding slots flat_map
empty_slots = refl

-- the page with the relations anew
pub lose_done : (t : Train) (page x y : List ℕ) (n m : ℕ) → length page ≡ 512 → n ≡ get_or page 1 0 → n ≤ 6
    → let b = take (length page - 416) (drop 416 page) in
    m ≡ length (rest_from t b n 0) → x ≡ slots encode_relation 6 (rest_from t b n 0) → y ≡ x
    → set (take 416 page ++ (y ++ drop (length page - 416) (drop 416 page))) 1 m ≡ page_lose_train t page
unfolding page_lose_train relations_of relation_records
lose_done t page x y n m whole count few many is over =
    let b = drop 416 page in
    let k = length page - 416 in
    let l = rest_from t (take k b) n 0 in
    let part : take k b ≡ b = take_all k b (omega (arith, length-drop 416 page)) in
    let six : n ≡ min (get_or page 1 0) 6 = omega arith in
    let same : l ≡ lose_all t (map decode_relation (records_of (min (get_or page 1 0) 6) b)) = λ i. lose_all t (map decode_relation (records_of (six i) (part i))) in
    let new : y ≡ slots encode_relation 6 l = over ∙ is in
    let end : drop k b ≡ [] = drop_of_length-le b {i = k} (omega (arith, length-drop 416 page)) in
    rw (new, end, append-nil (slots encode_relation 6 l), many, same, counts_few 1 6 page n whole count few)

-- and where it counts too many
pub lose_off : (t : Train) (page : List ℕ) → counts_to 1 6 page ≡ false → page ≡ page_lose_train t page
unfolding page_lose_train
lose_off t page q = rw q
