-- Rows of numbers and lists of entries, walked: a row gives its own numbers back, each in its range and all above the
-- floor; entries are those of each entry in turn, each behind the floor that the one before sets. By induction on the
-- ranges, and on the entries. Assumes nothing.
use Prim.Native.Nat.{ℕ, zero, suc, ◌+◌, ◌≤◌, ◌<◌, max}
use mathlib.Core.Path.{◌≡◌, refl, sym, ◌∙◌, ap, ap₂, subst}
use mathlib.Core.Bool.{Bool, true, false, ◌&&◌}
use mathlib.Core.List.{List, [], ◌∷◌, ◌++◌, map, flat_map, map-id}
use native.Mathlib.Omega.{arith}
use lib.Dec.{T, leb, ltb, leb→le, le→leb, ltb→lt}
use lib.ListN.{length, get_or, drop}
use lib.Seq.{drop-drop, get_or-drop}
use Rattle.base.specs.Lists.{within, every}
use Rattle.base.proofs.Tests.{T_true, and_l, and_r, both, every_head, every_tail}
use Rattle.numbers.specs.Numbers.{width}
use Rattle.timetable.specs.Formats.{Format, done, ◌and_then◌, Range, ◌to◌, least, floor_after, compared, row, entries, Placed, placed}
use Rattle.roundtrips.proofs.Walks.{InRange, walks}
use Rattle.roundtrips.proofs.WalkLaws.{span, walks_then, then_walks, walks_made, made_walks}

-- ranges as tests

pub in_test : (lo hi n : ℕ) → InRange lo hi n → T (within lo hi n)
in_test lo hi n r = both (leb lo n) (leb n hi) (le→leb lo n r.low) (le→leb n hi r.high)

pub test_in : (lo hi n : ℕ) → hi < 2097152 → T (within lo hi n) → InRange lo hi n
test_in lo hi n h t =
    let u : n ≤ hi = leb→le n hi (and_r (leb lo n) (leb n hi) t) in
    record { low = leb→le lo n (and_l (leb lo n) (leb n hi) t); high = u; short = omega arith }

-- a range from 0
pub most_test : (hi n : ℕ) → InRange 0 hi n → T (leb n hi)
most_test hi n r = le→leb n hi r.high

pub test_most : (hi n : ℕ) → hi < 2097152 → T (leb n hi) → InRange 0 hi n
test_most hi n h t = let u : n ≤ hi = leb→le n hi t in record { low = omega arith; high = u; short = omega arith }

-- floors

-- the numbers are above the floor: none falls below its namesake while the earlier ones are equal, and they are not all
-- equal
unfoldable pub Over : List ℕ → List ℕ → Type 0
Over floor [] = Unit
Over floor (n ∷ ns) = (least 0 floor ≤ n) × Over (floor_after n floor) ns

pub over_none : (ns : List ℕ) → Over [] ns
unfolding Over least floor_after
over_none [] = tt
over_none (n ∷ ns) = (omega arith, over_none ns)

least_max : (lo : ℕ) (floor : List ℕ) → least lo floor ≡ max lo (least 0 floor)
unfolding least
least_max lo [] = omega arith
least_max lo (b ∷ []) = omega arith
least_max lo (b ∷ c ∷ bs) = omega arith

module _ (lo hi : ℕ) (floor : List ℕ) (n : ℕ) where
  pub raised : InRange (least lo floor) hi n → InRange lo hi n × (least 0 floor ≤ n)
  raised r = (record { low = omega (arith, r.low, least_max lo floor); high = r.high; short = r.short }, omega (arith, r.low, least_max lo floor))

  pub raise : InRange lo hi n → least 0 floor ≤ n → InRange (least lo floor) hi n
  raise r h = record { low = omega (arith, r.low, least_max lo floor); high = r.high; short = r.short }

-- rows

-- a number in each range
unfoldable pub RowIn : List Range → List ℕ → Type 0
RowIn [] [] = Unit
RowIn [] (n ∷ ns) = ⊥
RowIn (r ∷ rs) [] = ⊥
RowIn (r ∷ rs) (n ∷ ns) = InRange r.lo r.hi n × RowIn rs ns

pub walks_row : (rs : List Range) (floor : List ℕ) (p : ℕ) (ns : List ℕ) → RowIn rs ns → Over floor ns → walks (row rs floor) p ns ns
unfolding walks row compared RowIn Over
walks_row [] floor p [] i o = refl
walks_row [] floor p (n ∷ ns) i o = absurd i
walks_row (r ∷ rs) floor p [] i o = absurd i
walks_row (r ∷ rs) floor p (n ∷ ns) (x, i) (h, o) = (
  raise r.lo r.hi floor n x h,
  walks_made (λ ns. n ∷ ns) (row rs (floor_after n floor)) (p + width n) ns ns (walks_row rs (floor_after n floor) (p + width n) ns i o),
)

pub row_walks : (rs : List Range) (floor : List ℕ) (p : ℕ) (ns ms : List ℕ) → walks (row rs floor) p ns ms → (ns ≡ ms) × RowIn rs ms × Over floor ms
unfolding walks row compared RowIn Over
row_walks [] floor p [] ms w = (w, rw (sym w) tt, rw (sym w) tt)
row_walks [] floor p (n ∷ ns) ms w = absurd w
row_walks (r ∷ rs) floor p [] ms w = absurd w
row_walks (r ∷ rs) floor p (n ∷ ns) ms (x, w) =
    let (ks, v, e) = made_walks (λ ns. n ∷ ns) (row rs (floor_after n floor)) (p + width n) ns ms w in
    let (q, i, o) = row_walks rs (floor_after n floor) (p + width n) ns ks v in
    let (y, h) = raised r.lo r.hi floor n x in
    (ap (λ (l : List ℕ). n ∷ l) q ∙ e, rw (sym e) (y, i), rw (sym e) (h, o))

-- the numbers of a list by their index, from one on
unfoldable pub by_index : ℕ → ℕ → List ℕ → List ℕ
by_index zero j ns = []
by_index (suc k) j ns = get_or ns j 0 ∷ by_index k (j + 1) ns

pub row_exact : (rs : List Range) (ns : List ℕ) → RowIn rs ns → ns ≡ by_index (length rs) 0 ns
unfolding RowIn by_index
row_exact rs ns i = go rs 0 ns ns refl i
  where
    go : (rs : List Range) (j : ℕ) (all ns : List ℕ) → drop j all ≡ ns → RowIn rs ns → ns ≡ by_index (length rs) j all
    go [] j all [] e i = refl
    go [] j all (n ∷ ns) e i = absurd i
    go (r ∷ rs) j all [] e i = absurd i
    go (r ∷ rs) j all (n ∷ ns) e (x, i) =
        let q : j + 0 ≡ j = omega arith in
        let head : get_or all j 0 ≡ n = ap (λ (k : ℕ). get_or all k 0) (sym q) ∙ sym (get_or-drop j all 0 0) ∙ ap (λ (l : List ℕ). get_or l 0 0) e in
        let tail : drop (j + 1) all ≡ ns = sym (drop-drop 1 j all) ∙ ap (drop 1) e in
        ap₂ (λ (m : ℕ) (l : List ℕ). m ∷ l) (sym head) (go rs (j + 1) all ns tail i)

-- where there is no range
abbrev pub no_range : Range
no_range = 0 to 0

pub row_at : (rs : List Range) (ns : List ℕ) → RowIn rs ns → (i : ℕ) → i < length rs → InRange (get_or rs i no_range).lo (get_or rs i no_range).hi (get_or ns i 0)
unfolding RowIn
row_at [] ns x i h = absurd (omega arith)
row_at (r ∷ rs) [] x i h = absurd x
row_at (r ∷ rs) (n ∷ ns) (x, y) zero h = x
row_at (r ∷ rs) (n ∷ ns) (x, y) (suc i) h = row_at rs ns y i (omega arith)

-- values of a row: numbers in the ranges make a value in range, which is written with them; and a value in range is
-- written with such numbers
pub record Fields {A : Type 0} (ranges : List Range) (make : List ℕ → A) (numbers : A → List ℕ) (ok : A → Bool) : Type 0 where
  pub written : (ns : List ℕ) → RowIn ranges ns → ns ≡ numbers (make ns)
  pub good : (ns : List ℕ) → RowIn ranges ns → T (ok (make ns))
  pub back : (a : A) → T (ok a) → make (numbers a) ≡ a
  pub within : (a : A) → T (ok a) → RowIn ranges (numbers a)

-- each number is in its range, as one test; no range asks for a number that takes four bytes
unfoldable pub row_test : List Range → List ℕ → Bool
row_test [] [] = true
row_test [] (n ∷ ns) = false
row_test (r ∷ rs) [] = false
row_test (r ∷ rs) (n ∷ ns) = within r.lo r.hi n && row_test rs ns

abbrev pub three_bytes : List Range → Bool
three_bytes rs = every (λ (r : Range). ltb r.hi 2097152) rs

row_tested : (rs : List Range) (ns : List ℕ) → RowIn rs ns → T (row_test rs ns)
unfolding RowIn row_test
row_tested [] [] i = tt
row_tested [] (n ∷ ns) i = absurd i
row_tested (r ∷ rs) [] i = absurd i
row_tested (r ∷ rs) (n ∷ ns) (x, i) = both (within r.lo r.hi n) (row_test rs ns) (in_test r.lo r.hi n x) (row_tested rs ns i)

tested_row : (rs : List Range) → T (three_bytes rs) → (ns : List ℕ) → T (row_test rs ns) → RowIn rs ns
unfolding RowIn row_test
tested_row [] h [] t = tt
tested_row [] h (n ∷ ns) t = absurd t
tested_row (r ∷ rs) h [] t = absurd t
tested_row (r ∷ rs) h (n ∷ ns) t = (
  test_in r.lo r.hi n (ltb→lt r.hi 2097152 (every_head (λ (r : Range). ltb r.hi 2097152) r rs h)) (and_l (within r.lo r.hi n) (row_test rs ns) t),
  tested_row rs (every_tail (λ (r : Range). ltb r.hi 2097152) r rs h) ns (and_r (within r.lo r.hi n) (row_test rs ns) t),
)

-- so the test of a value and that of its numbers need only be the same tests, put together as they may be, beside one
-- that what is made passes and that lets a value be made of its numbers
module _ {A : Type 0} (ranges : List Range) (make : List ℕ → A) (numbers : A → List ℕ) (ok : A → Bool) (short : T (three_bytes ranges)) where
  module _ (written : (ns : List ℕ) → RowIn ranges ns → by_index (length ranges) 0 ns ≡ numbers (make ns))
      (kept : A → Bool) (keeps : (ns : List ℕ) → T (kept (make ns))) (back : (a : A) → T (kept a) → make (numbers a) ≡ a)
      (tests : (a : A) → ok a ≡ (kept a && row_test ranges (numbers a))) where
    pub ranged_fields : Fields ranges make numbers ok
    ranged_fields =
        let whole : (ns : List ℕ) → RowIn ranges ns → ns ≡ numbers (make ns) = λ ns i. row_exact ranges ns i ∙ written ns i in
        record {
          written = whole;
          good = λ ns i.
              subst T (sym (tests (make ns)))
              (both (kept (make ns)) (row_test ranges (numbers (make ns))) (keeps ns) (subst (λ (l : List ℕ). T (row_test ranges l)) (whole ns i) (row_tested ranges ns i)));
          back = λ a t. back a (and_l (kept a) (row_test ranges (numbers a)) (subst T (tests a) t));
          within = λ a t. tested_row ranges short (numbers a) (and_r (kept a) (row_test ranges (numbers a)) (subst T (tests a) t));
        }

  -- where the numbers need not be in the ranges to be written again
  module _ (written : (ns : List ℕ) → by_index (length ranges) 0 ns ≡ numbers (make ns)) where
    module _ (kept : A → Bool) (keeps : (ns : List ℕ) → T (kept (make ns))) (back : (a : A) → T (kept a) → make (numbers a) ≡ a)
        (tests : (a : A) → ok a ≡ (kept a && row_test ranges (numbers a))) where
      pub kept_fields : Fields ranges make numbers ok
      kept_fields = ranged_fields (λ ns i. written ns) kept keeps back tests

    module _ (back : (a : A) → make (numbers a) ≡ a) (tests : (a : A) → ok a ≡ row_test ranges (numbers a)) where
      pub tested_fields : Fields ranges make numbers ok
      tested_fields = kept_fields (λ a. true) (λ ns. tt) (λ a t. back a) tests

pub and_assoc : (a b c : Bool) → ((a && b) && c) ≡ (a && (b && c))
and_assoc true b c = refl
and_assoc false b c = refl

pub nought_least : (n : ℕ) → leb 0 n ≡ true
nought_least n = T_true (leb 0 n) (le→leb 0 n (omega arith))

pub and_true : (a : Bool) → (a && true) ≡ a
and_true true = refl
and_true false = refl

module _ {A B : Type 0} {ranges : List Range} {make : List ℕ → A} {numbers : A → List ℕ} {ok : A → Bool} (f : Fields ranges make numbers ok) (g : A → B) where
  pub walks_fields : (floor : List ℕ) (p : ℕ) (a : A) → T (ok a) → Over floor (numbers a) → walks (row ranges floor and_then (λ ns. done (g (make ns)))) p (numbers a) (g a)
  walks_fields floor p a t o =
      rw (ap g (f.back a t)) at
      (walks_made (λ ns. g (make ns)) (row ranges floor) p (numbers a) (numbers a) (walks_row ranges floor p (numbers a) (f.within a t) o))

  pub fields_walk : (floor : List ℕ) (p : ℕ) (ns : List ℕ) (b : B) → walks (row ranges floor and_then (λ ns. done (g (make ns)))) p ns b
      → (a : A) × (ns ≡ numbers a) × T (ok a) × Over floor (numbers a) × (g a ≡ b)
  fields_walk floor p ns b w =
      let (ms, v, q) = made_walks (λ ns. g (make ns)) (row ranges floor) p ns b w in
      let (x, i, o) = row_walks ranges floor p ns ms v in
      (make ms, x ∙ f.written ms i, f.good ms i, subst (Over floor) (f.written ms i) o, q)

-- entries

-- each fits behind the floor that the one before it sets
module _ {A : Type 0} (floor_by : A → List ℕ) (Fits : List ℕ → A → Type 0) where
  unfoldable pub Chain : List ℕ → List A → Type 0
  Chain floor [] = Unit
  Chain floor (x ∷ xs) = Fits floor x × Chain (floor_by x) xs

  chain_at : (floor floor' : List ℕ) (xs : List A) → floor ≡ floor' → Chain floor xs → Chain floor' xs
  chain_at floor floor' xs e c = rw e at c

-- the values of entries in a row, the first at a place
module _ {A B : Type 0} (numbers : A → List ℕ) (value : ℕ → A → B) where
  unfoldable pub values : ℕ → List A → List B
  values p [] = []
  values p (x ∷ xs) = value p x ∷ values (p + span (numbers x)) xs

-- An entry and the value that it gives at a place; the numbers of an entry; what an entry must be behind a floor.
module _ {A B : Type 0} (entry : List ℕ → Format B) (floor_of : B → List ℕ) (numbers : A → List ℕ) (floor_by : A → List ℕ) (Fits : List ℕ → A → Type 0) where
  pub walks_entries : (value : ℕ → A → B) → ((p : ℕ) (x : A) → floor_of (value p x) ≡ floor_by x)
      → ((floor : List ℕ) (p : ℕ) (x : A) → Fits floor x → walks (entry floor) p (numbers x) (value p x))
      → (xs : List A) (floor : List ℕ) (p : ℕ) → Chain floor_by Fits floor xs → walks (entries entry floor_of (length xs) floor) p (flat_map numbers xs) (values numbers value p xs)
  unfolding walks entries Chain values flat_map
  walks_entries value same each [] floor p c = refl
  walks_entries value same each (x ∷ xs) floor p (f, c) =
      walks_then (entry floor) (λ v. entries entry floor_of (length xs) (floor_of v) and_then (λ rest. done (v ∷ rest))) p (numbers x) (flat_map numbers xs) (value p x) _
      (each floor p x f)
      (walks_made (λ rest. value p x ∷ rest) (entries entry floor_of (length xs) (floor_of (value p x))) (p + span (numbers x)) (flat_map numbers xs)
      (values numbers value (p + span (numbers x)) xs)
      (rw (same p x) (walks_entries value same each xs (floor_by x) (p + span (numbers x)) c)))

  pub entries_walk : (of : B → A) → ((v : B) → floor_of v ≡ floor_by (of v))
      → ((floor : List ℕ) (p : ℕ) (ns : List ℕ) (v : B) → walks (entry floor) p ns v → (ns ≡ numbers (of v)) × Fits floor (of v))
      → (k : ℕ) (floor : List ℕ) (p : ℕ) (ns : List ℕ) (vs : List B) → walks (entries entry floor_of k floor) p ns vs
      → (ns ≡ flat_map numbers (map of vs)) × Chain floor_by Fits floor (map of vs) × (length vs ≡ k)
  unfolding walks entries Chain flat_map
  entries_walk of same each zero floor p [] vs w = rw (sym w) (refl, tt, refl)
  entries_walk of same each zero floor p (n ∷ ns) vs w = absurd w
  entries_walk of same each (suc k) floor p ns vs w =
      let s = then_walks (entry floor) (λ v. entries entry floor_of k (floor_of v) and_then (λ rest. done (v ∷ rest))) p ns vs w in
      let v = s.value in
      let (us, u, e) = made_walks (λ rest. v ∷ rest) (entries entry floor_of k (floor_of v)) (p + span s.before) s.behind vs s.second in
      let (q, f) = each floor p s.before v s.first in
      let (x, c, l) = entries_walk of same each k (floor_of v) (p + span s.before) s.behind us u in
      rw (sym e) ((s.whole ∙ ap₂ ◌++◌ q x), (f, chain_at floor_by Fits (floor_of v) (floor_by (of v)) (map of us) (same v) c), ap suc l)

-- entries with their places
module _ {A : Type 0} (f : Format A) where
  pub walks_placed : (p : ℕ) (ns : List ℕ) (a : A) → walks f p ns a → walks (placed f) p ns (record { place = p; entry = a })
  unfolding walks placed
  walks_placed p ns a w = walks_made (λ a. record { place = p; entry = a }) f p ns a w

  pub placed_walks : (p : ℕ) (ns : List ℕ) (v : Placed A) → walks (placed f) p ns v → walks f p ns v.entry × (v.place ≡ p)
  unfolding walks placed
  placed_walks p ns v w =
      let (a, u, e) = made_walks (λ a. record { place = p; entry = a }) f p ns v w in
      (rw (sym e) u, ap (λ (x : Placed A). x.place) (sym e))

module _ {A : Type 0} (numbers : A → List ℕ) where
  -- values without places are the entries themselves
  pub values_plain : (p : ℕ) (xs : List A) → values numbers (λ p x. x) p xs ≡ xs
  unfolding values
  values_plain p [] = refl
  values_plain p (x ∷ xs) = ap (λ (l : List A). x ∷ l) (values_plain (p + span (numbers x)) xs)

  -- and with places, beside them
  pub values_entries : (p : ℕ) (xs : List A) → map (λ (v : Placed A). v.entry) (values numbers (λ p x. record { place = p; entry = x }) p xs) ≡ xs
  unfolding values
  values_entries p [] = refl
  values_entries p (x ∷ xs) = ap (λ (l : List A). x ∷ l) (values_entries (p + span (numbers x)) xs)

-- what a kind of entry is: those that fit behind the floor walk it with their numbers, and no other numbers do
pub record Entry {A : Type 0} (entry : List ℕ → Format A) (numbers : A → List ℕ) (Fits : List ℕ → A → Type 0) : Type 0 where
  pub walk : (floor : List ℕ) (p : ℕ) (x : A) → Fits floor x → walks (entry floor) p (numbers x) x
  pub back : (floor : List ℕ) (p : ℕ) (ns : List ℕ) (x : A) → walks (entry floor) p ns x → (ns ≡ numbers x) × Fits floor x

module _ {A : Type 0} (entry : List ℕ → Format A) (numbers : A → List ℕ) (floor_by : A → List ℕ) (Fits : List ℕ → A → Type 0) (law : Entry entry numbers Fits) where
  pub walks_plain : (xs : List A) (floor : List ℕ) (p : ℕ) → Chain floor_by Fits floor xs → walks (entries entry floor_by (length xs) floor) p (flat_map numbers xs) xs
  walks_plain xs floor p c =
      subst (walks (entries entry floor_by (length xs) floor) p (flat_map numbers xs)) (values_plain numbers p xs)
      (walks_entries entry floor_by numbers floor_by Fits (λ p x. x) (λ p x. refl) law.walk xs floor p c)

  pub plain_walks : (k : ℕ) (floor : List ℕ) (p : ℕ) (ns : List ℕ) (xs : List A) → walks (entries entry floor_by k floor) p ns xs
      → (ns ≡ flat_map numbers xs) × Chain floor_by Fits floor xs × (length xs ≡ k)
  plain_walks k floor p ns xs w =
      let (x, c, l) = entries_walk entry floor_by numbers floor_by Fits (λ x. x) (λ x. refl) law.back k floor p ns xs w in
      (x ∙ ap (flat_map numbers) (map-id xs), subst (Chain floor_by Fits floor) (map-id xs) c, l)

  -- the same with places
  abbrev pub placed_by : Placed A → List ℕ
  placed_by v = floor_by v.entry

  abbrev pub placed_entry : List ℕ → Format (Placed A)
  placed_entry floor = placed (entry floor)

  abbrev pub put : ℕ → A → Placed A
  put p x = record { place = p; entry = x }

  abbrev pub taken : Placed A → A
  taken v = v.entry

  pub walks_places : (xs : List A) (floor : List ℕ) (p : ℕ) → Chain floor_by Fits floor xs
      → walks (entries placed_entry placed_by (length xs) floor) p (flat_map numbers xs) (values numbers put p xs)
  walks_places xs floor p c =
      walks_entries placed_entry placed_by numbers floor_by Fits put (λ p x. refl) (λ floor p x f. walks_placed (entry floor) p (numbers x) x (law.walk floor p x f)) xs floor p c

  pub places_walk : (k : ℕ) (floor : List ℕ) (p : ℕ) (ns : List ℕ) (vs : List (Placed A)) → walks (entries placed_entry placed_by k floor) p ns vs
      → (ns ≡ flat_map numbers (map taken vs)) × Chain floor_by Fits floor (map taken vs) × (length vs ≡ k)
  places_walk k floor p ns vs w =
      entries_walk placed_entry placed_by numbers floor_by Fits taken (λ v. refl)
      (λ floor p ns v w. law.back floor p ns v.entry (placed_walks (entry floor) p ns v w).0) k floor p ns vs w
