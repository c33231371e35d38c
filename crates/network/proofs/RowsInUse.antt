-- Rows in use, gone through from an index on: the first that passes a test, whether each passes, and whether each is in
-- range with a number above the one before it. A loop's turn looks at one row; what is asked of the rest is asked of
-- the rows from the next index on. Assumes nothing.
use Prim.Native.Nat.{ℕ, zero, suc, ◌+◌, ◌<◌, ◌≤◌, min}
use mathlib.Core.Path.{◌≡◌, refl, sym, ◌∙◌, ap}
use mathlib.Core.Bool.{Bool, true, false, false≢true, ◌&&◌, ◌||◌}
use mathlib.Core.List.{List, [], ◌∷◌, map}
use Rattle.std.specs.Prelude.{Option, None, Some, option_map}
use Rattle.std.specs.Option.{option_copied}
use Rattle.std.proofs.Common.{Bor}
use native.Mathlib.Omega.{arith}
use lib.Dec.{ltb, leb, eqb, ltb→lt, lt→ltb}
use lib.ListN.{length, get_or, take, drop, drop_of_length-le, length-take}
use lib.Seq.{get_or-take, take_all}
use borrow.Author.Tests.{eq-eqb, lt-ltb, le-ltb, ltb-true, leb-true, leb-false}
use Rattle.std.specs.Prelude.{if◌then◌else◌}
use Rattle.base.specs.Lists.{any, every, first, is, each_two, rising}
use Rattle.base.proofs.Lengths.{drop_next}
use Rattle.base.proofs.Tests.{T_true, true_T, eqb_turned, every_weaker}
use Rattle.network.specs.Types.{Station, StationRow, Network}
use Rattle.railway.specs.Ranges.{same_station}
use Rattle.network.specs.Networks.{station_rows, stations_of, listed, station_row}

-- the rows in use, at most those that there are
pub used_rows : {A : Type 0} (rows : List A) (c k n : ℕ) → length rows ≡ k → n ≡ min c k → take c rows ≡ take n rows
used_rows rows c k n h e = go (leb c k) refl
  where
    go : (b : Bool) → leb c k ≡ b → take c rows ≡ take n rows
    go true p = let q : c ≡ n = omega (arith, leb-true c k p) in rw q
    go false p = let q : n ≡ k = omega (arith, leb-false c k p) in
        take_all c rows (omega (arith, leb-false c k p)) ∙ sym (take_all n rows (omega arith))

-- the same of a slice of those there are
pub in_use_rows : {A : Type 0} (rows : List A) (c k : ℕ) → length rows ≡ k → take (min c k) rows ≡ take c rows
in_use_rows rows c k h = sym (used_rows rows c k (min c k) h refl)

pub option_copied_map : {A : Type 0} (r : Option (Bor A)) → option_copied r ≡ option_map (λ (x : Bor A). x.now) r
option_copied_map None = refl
option_copied_map (Some x) = refl

-- in range, and each number above the one before it, the first above m
unfoldable pub chained : {A : Type 0} → (A → Bool) → (A → ℕ) → ℕ → List A → Bool
chained ok f m [] = true
chained ok f m (x ∷ xs) = ok x && (ltb m (f x) && chained ok f (f x) xs)

module _ {A : Type 0} (rows : List A) (n : ℕ) (fits : n ≤ length rows) (i : ℕ) where
  -- the row at an index of those in use
  row_on : (d : A) → i < n → drop i (take n rows) ≡ get_or rows i d ∷ drop (i + 1) (take n rows)
  row_on d h =
      drop_next (take n rows) i d (simp length-take (omega arith))
      ∙ ap (λ (x : A). x ∷ drop (i + 1) (take n rows)) (get_or-take n rows i d h)

  rows_over : n ≤ i → drop i (take n rows) ≡ []
  rows_over h = drop_of_length-le (take n rows) {i = i} (simp length-take (omega arith))

  module _ (f : A → Bool) where
    pub first_here : (d : A) → i < n → f (get_or rows i d) ≡ true → first f (drop i (take n rows)) ≡ Some (get_or rows i d)
    unfolding first
    first_here d h e = rw (row_on d h, e)

    pub first_later : (d : A) → i < n → f (get_or rows i d) ≡ false → first f (drop i (take n rows)) ≡ first f (drop (i + 1) (take n rows))
    unfolding first
    first_later d h e = ap (first f) (row_on d h) ∙ rw e

    pub first_nowhere : n ≤ i → first f (drop i (take n rows)) ≡ None
    unfolding first
    first_nowhere h = rw (rows_over h)

    pub any_here : (d : A) → i < n → f (get_or rows i d) ≡ true → any f (drop i (take n rows)) ≡ true
    unfolding any
    any_here d h e = rw (row_on d h, e)

    pub any_later : (d : A) → i < n → f (get_or rows i d) ≡ false → any f (drop i (take n rows)) ≡ any f (drop (i + 1) (take n rows))
    unfolding any
    any_later d h e = ap (any f) (row_on d h) ∙ rw e

    pub any_nowhere : n ≤ i → any f (drop i (take n rows)) ≡ false
    unfolding any
    any_nowhere h = rw (rows_over h)

    pub every_not : (d : A) → i < n → f (get_or rows i d) ≡ false → every f (drop i (take n rows)) ≡ false
    unfolding every
    every_not d h e = rw (row_on d h, e)

    pub every_later : (d : A) → i < n → f (get_or rows i d) ≡ true → every f (drop i (take n rows)) ≡ every f (drop (i + 1) (take n rows))
    unfolding every
    every_later d h e = ap (every f) (row_on d h) ∙ rw e

    pub every_over : n ≤ i → every f (drop i (take n rows)) ≡ true
    unfolding every
    every_over h = rw (rows_over h)

  module _ (ok : A → Bool) (f : A → ℕ) (m : ℕ) where
    pub chained_not : (d : A) → i < n → ok (get_or rows i d) ≡ false → chained ok f m (drop i (take n rows)) ≡ false
    unfolding chained
    chained_not d h e = rw (row_on d h, e)

    pub chained_falls : (d : A) → i < n → f (get_or rows i d) ≤ m → chained ok f m (drop i (take n rows)) ≡ false
    unfolding chained
    chained_falls d h e = rw (row_on d h, le-ltb m (f (get_or rows i d)) e) (go (ok (get_or rows i d)))
      where
        go : (b : Bool) → (b && false) ≡ false
        go true = refl
        go false = refl

    pub chained_later : (d : A) → i < n → ok (get_or rows i d) ≡ true → m < f (get_or rows i d)
        → chained ok f m (drop i (take n rows)) ≡ chained ok f (f (get_or rows i d)) (drop (i + 1) (take n rows))
    unfolding chained
    chained_later d h e p = ap (chained ok f m) (row_on d h) ∙ rw (e, lt-ltb m (f (get_or rows i d)) p)

    pub chained_over : n ≤ i → chained ok f m (drop i (take n rows)) ≡ true
    unfolding chained
    chained_over h = rw (rows_over h)

pub and_no : (b : Bool) → (b && false) ≡ false
and_no true = refl
and_no false = refl

-- rows that are each in range, with numbers that rise, where no number is 0

-- above x, and so above whatever is below x
every_above : (m x : ℕ) (ys : List ℕ) → m < x → every (ltb x) ys ≡ true → every (ltb m) ys ≡ true
every_above m x ys h e =
    T_true (every (ltb m) ys) (every_weaker (ltb x) (ltb m) (λ y t. lt→ltb m y (omega (arith, ltb→lt x y t))) ys (true_T (every (ltb x) ys) e))

module _ {A : Type 0} (ok : A → Bool) (f : A → ℕ) where
  chained_rises : (m : ℕ) (xs : List A) → chained ok f m xs ≡ (every ok xs && (every (ltb m) (map f xs) && rising (map f xs)))
  unfolding chained every rising each_two
  chained_rises m [] = refl
  chained_rises m (x ∷ xs) =
      go (ok x) (ltb m (f x)) refl (every ok xs) (every (ltb (f x)) (map f xs)) refl (every (ltb m) (map f xs)) (rising (map f xs))
      (chained_rises (f x) xs) (every_above m (f x) (map f xs))
    where
      go : (a b : Bool) → ltb m (f x) ≡ b → (o u : Bool) → every (ltb (f x)) (map f xs) ≡ u → (v r : Bool)
          → chained ok f (f x) xs ≡ (o && (u && r)) → (m < f x → every (ltb (f x)) (map f xs) ≡ true → v ≡ true)
          → (a && (b && chained ok f (f x) xs)) ≡ ((a && o) && ((b && v) && (u && r)))
      go false b p o u q v r e w = refl
      go true false p o u q v r e w = bad o
        where
          bad : (o : Bool) → false ≡ (o && false)
          bad true = refl
          bad false = refl
      go true true p o false q v r e w = rw e (None o v)
        where
          None : (o v : Bool) → (o && false) ≡ (o && (v && false))
          None true true = refl
          None true false = refl
          None false v = refl
      go true true p o true q v r e w = rw (e, w (ltb-true m (f x) p) q)

  positive : ((x : A) → ok x ≡ true → 0 < f x) → (xs : List A) → every ok xs ≡ true → every (ltb 0) (map f xs) ≡ true
  unfolding every
  positive h [] e = refl
  positive h (x ∷ xs) e = go (ok x) refl e (positive h xs)
    where
      go : (b : Bool) → ok x ≡ b → (b && every ok xs) ≡ true → (every ok xs ≡ true → every (ltb 0) (map f xs) ≡ true) → (ltb 0 (f x) && every (ltb 0) (map f xs)) ≡ true
      go true p q ih = rw (lt-ltb 0 (f x) (h x p)) (ih q)
      go false p q ih = absurd (false≢true q)

  pub rises : ((x : A) → ok x ≡ true → 0 < f x) → (xs : List A) → chained ok f 0 xs ≡ (every ok xs && rising (map f xs))
  rises h xs = chained_rises 0 xs ∙ go (every ok xs) refl
    where
      go : (b : Bool) → every ok xs ≡ b → (b && (every (ltb 0) (map f xs) && rising (map f xs))) ≡ (b && rising (map f xs))
      go true e = rw (positive h xs e)
      go false e = refl

-- a station is listed where its row is found
pub listed_found : (n : Network) (s : Station) → listed n s ≡ is (λ r. true) (station_row n s)
unfolding listed station_row stations_of any first
listed_found n s = go (station_rows n)
  where
    one : (b : Bool) (r : StationRow) (x : Bool) (o : Option StationRow) → x ≡ is (λ r. true) o → (b || x) ≡ is (λ r. true) (if b then Some r else o)
    one true r x o e = refl
    one false r x o e = e

    go : (rows : List StationRow) → any (same_station s) (map (λ r. r.station) rows) ≡ is (λ r. true) (first (λ r. same_station r.station s) rows)
    go [] = refl
    go (r ∷ rows) = rw (eqb_turned s.0 r.station.0) (one (eqb r.station.0 s.0) r (any (same_station s) (map (λ r. r.station) rows)) (first (λ r. same_station r.station s) rows) (go rows))

-- and where a row in use, whichever, has its number
pub listed_at : (n : Network) (s : Station) (i : ℕ) (d : StationRow) → i < n.stationcount → i < length n.stations → (get_or n.stations i d).station.0 ≡ s.0 → listed n s ≡ true
unfolding listed stations_of station_rows any
listed_at n s i d h g e = go n.stationcount n.stations i h g e
  where
    go : (k : ℕ) (rows : List StationRow) (i : ℕ) → i < k → i < length rows → (get_or rows i d).station.0 ≡ s.0 → any (same_station s) (map (λ r. r.station) (take k rows)) ≡ true
    go zero rows i h g e = absurd (omega arith)
    go (suc k) [] i h g e = absurd (omega arith)
    go (suc k) (r ∷ rows) zero h g e = rw (eq-eqb s.0 r.station.0 (sym e))
    go (suc k) (r ∷ rows) (suc i) h g e = rw (go k rows i (omega arith) (omega arith) e) (or-so (eqb s.0 r.station.0))
      where
        or-so : (b : Bool) → (b || true) ≡ true
        or-so true = refl
        or-so false = refl
