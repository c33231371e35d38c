-- Records on a row of slots: where one stands in the bytes, and what a search among them has found at each turn. Each
-- law is an induction on the number of records or on their list. Assumes nothing.
use Prim.Native.Nat.{ℕ, zero, suc, ◌+◌, ◌*◌, ◌≤◌, ◌<◌, min}
use mathlib.Core.Path.{◌≡◌, refl, sym, ap, ◌∙◌}
use mathlib.Core.Bool.{Bool, true, false, ◌||◌}
use mathlib.Core.List.{List, [], ◌∷◌, map}
use Rattle.std.specs.Prelude.{None, Some}
use native.Mathlib.Nat.{le_of_suc-le-suc, not-suc-le-zero}
use native.Mathlib.Omega.{arith}
use lib.Dec.{ltb, leb-suc-suc}
use lib.ListN.{length, get_or, take, drop, length-map, drop_of_length-le}
use lib.Seq.{drop-drop}
use borrow.Author.Tests.{lt-ltb, eq-eqb, ne_eqb}
use Rattle.std.specs.Prelude.{if◌then◌else◌}
use Rattle.base.specs.Lists.{any, first}
use Rattle.base.proofs.Lengths.{drop_next}
use Rattle.timetable.specs.Tables.{empty}
use Rattle.records.specs.Records.{decode_entry, decode_relation}
use Rattle.page.specs.Pages.{records_of, visit_records, relation_records, visits_of, relations_of, decode_page}
use Rattle.page.specs.between.Changes.{table_in, index_of}

pub length_records : (k : ℕ) (b : List ℕ) → length (records_of k b) ≡ k
unfolding records_of
length_records zero b = refl
length_records (suc k) b = ap suc (length_records k (drop 16 b))

-- the record at an index, in the bytes
pub record_there : (k : ℕ) (b : List ℕ) (i : ℕ) → i < k → get_or (records_of k b) i [] ≡ take 16 (drop (16 * i) b)
unfolding records_of
record_there zero b i h = absurd (not-suc-le-zero h)
record_there (suc k) b zero h = refl
record_there (suc k) b (suc i) h =
    let next : 16 + 16 * i ≡ 16 * suc i = omega arith in
    record_there k (drop 16 b) i (le_of_suc-le-suc h) ∙ ap (take 16) (drop-drop (16 * i) 16 b ∙ ap (λ (m : ℕ). drop m b) next)

module _ (f : List ℕ → Bool) where
  index_next : (rs : List (List ℕ)) (i : ℕ) → i < length rs
      → index_of f (drop i rs) ≡ (if f (get_or rs i []) then 0 else suc (index_of f (drop (i + 1) rs)))
  unfolding index_of
  index_next rs i h = rw (drop_next rs i [] h)

  index_none : (rs : List (List ℕ)) (i : ℕ) → length rs ≤ i → index_of f (drop i rs) ≡ 0
  unfolding index_of
  index_none rs i h = rw (drop_of_length-le rs {i = i} h)

  pub index_most : (rs : List (List ℕ)) → index_of f rs ≤ length rs
  unfolding index_of
  index_most [] = omega arith
  index_most (r ∷ rs) = go (f r) (index_most rs)
    where
      go : (b : Bool) → index_of f rs ≤ length rs → (if b then 0 else suc (index_of f rs)) ≤ suc (length rs)
      go true h = omega arith
      go false h = omega arith

  -- a search among n records that has come to index i
  abbrev pub Searched : ℕ → List ℕ → ℕ → Type 0
  Searched n b i = (i ≤ n) × (index_of f (records_of n b) ≡ i + index_of f (drop i (records_of n b)))

  pub search_start : (n : ℕ) (b : List ℕ) → Searched n b 0
  search_start n b = (omega arith, omega arith)

  module _ (n : ℕ) (b : List ℕ) (i : ℕ) (s : Searched n b i) where
    pub search_hit : i < n → f (take 16 (drop (16 * i) b)) ≡ true → i ≡ index_of f (records_of n b)
    search_hit h e =
        let here : index_of f (drop i (records_of n b)) ≡ 0 =
        index_next (records_of n b) i (omega (arith, length_records n b)) ∙ rw (record_there n b i h, e) in
        omega arith

    pub search_on : i < n → f (take 16 (drop (16 * i) b)) ≡ false → Searched n b (i + 1)
    search_on h e =
        let later : index_of f (drop i (records_of n b)) ≡ suc (index_of f (drop (i + 1) (records_of n b))) =
        index_next (records_of n b) i (omega (arith, length_records n b)) ∙ rw (record_there n b i h, e) in
        (omega arith, omega arith)

    pub search_end : n ≤ i → n ≡ index_of f (records_of n b)
    search_end h = omega (arith, index_none (records_of n b) i (omega (arith, length_records n b)))

-- a page's table

pub table_of_page : (page : List ℕ) → length page ≡ 512 → table_in page ≡ decode_page page
unfolding table_in
table_of_page page e = rw (eq-eqb (length page) 512 e)

pub table_of_none : (page : List ℕ) → ¬ (length page ≡ 512) → table_in page ≡ empty
unfolding table_in
table_of_none page n = rw (ne_eqb (length page) 512 n)

pub no_visits : (page : List ℕ) → ¬ (length page ≡ 512) → length (table_in page).visits ≡ 0
unfolding empty
no_visits page n = rw (table_of_none page n)

pub visits_many : (page : List ℕ) → length page ≡ 512 → length (table_in page).visits ≡ min (get_or page 0 0) 24
unfolding decode_page visits_of visit_records
visits_many page e = rw (table_of_page page e) (length-map (records_of (min (get_or page 0 0) 24) (drop 32 page)) decode_entry ∙ length_records (min (get_or page 0 0) 24) (drop 32 page))

pub no_relations : (page : List ℕ) → ¬ (length page ≡ 512) → length (table_in page).relations ≡ 0
unfolding empty
no_relations page n = rw (table_of_none page n)

pub relations_many : (page : List ℕ) → length page ≡ 512 → length (table_in page).relations ≡ min (get_or page 1 0) 6
unfolding decode_page relations_of relation_records
relations_many page e = rw (table_of_page page e) (length-map (records_of (min (get_or page 1 0) 6) (drop 416 page)) decode_relation ∙ length_records (min (get_or page 1 0) 6) (drop 416 page))

-- what is found among records is the first of what they are read as

module _ {B : Type 0} (g : B → Bool) (read : List ℕ → B) where
  pub first_at : (rs : List (List ℕ)) → index_of (λ r. g (read r)) rs < length rs
      → first g (map read rs) ≡ Some (read (get_or rs (index_of (λ r. g (read r)) rs) []))
  unfolding first index_of
  first_at [] h = absurd (not-suc-le-zero h)
  first_at (r ∷ rs) h = go (g (read r)) h (first_at rs)
    where
      go : (b : Bool) → (if b then 0 else suc (index_of (λ r. g (read r)) rs)) < suc (length rs)
          → (index_of (λ r. g (read r)) rs < length rs → first g (map read rs) ≡ Some (read (get_or rs (index_of (λ r. g (read r)) rs) [])))
          → (if b then Some (read r) else first g (map read rs)) ≡ Some (read (get_or (r ∷ rs) (if b then 0 else suc (index_of (λ r. g (read r)) rs)) []))
      go true k ih = refl
      go false k ih = ih (omega arith)

  pub first_nowhere : (rs : List (List ℕ)) → length rs ≤ index_of (λ r. g (read r)) rs → first g (map read rs) ≡ None
  unfolding first index_of
  first_nowhere [] h = refl
  first_nowhere (r ∷ rs) h = go (g (read r)) h (first_nowhere rs)
    where
      go : (b : Bool) → suc (length rs) ≤ (if b then 0 else suc (index_of (λ r. g (read r)) rs))
          → (length rs ≤ index_of (λ r. g (read r)) rs → first g (map read rs) ≡ None) → (if b then Some (read r) else first g (map read rs)) ≡ None
      go true k ih = absurd (not-suc-le-zero k)
      go false k ih = ih (omega arith)

  pub any_index : (rs : List (List ℕ)) → any g (map read rs) ≡ ltb (index_of (λ r. g (read r)) rs) (length rs)
  unfolding any index_of
  any_index [] = refl
  any_index (r ∷ rs) = go (g (read r)) (any_index rs)
    where
      go : (b : Bool) → any g (map read rs) ≡ ltb (index_of (λ r. g (read r)) rs) (length rs)
          → (b || any g (map read rs)) ≡ ltb (if b then 0 else suc (index_of (λ r. g (read r)) rs)) (suc (length rs))
      go true e = sym (lt-ltb 0 (suc (length rs)) (omega arith))
      go false e = e ∙ sym (leb-suc-suc (suc (index_of (λ r. g (read r)) rs)) (length rs))
