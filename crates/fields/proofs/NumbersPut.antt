-- Numbers put into a buffer: their bytes one list behind the other, the places near enough, and rows put one by one.
-- Assumes nothing.
use Prim.Native.Nat.{ℕ, ◌+◌, ◌≤◌, ◌<◌}
use mathlib.Core.Path.{◌≡◌, refl, sym, ◌∙◌, ap}
use mathlib.Core.List.{List, [], ◌∷◌, ◌++◌, flat_map, append-nil, append_assoc}
use native.Mathlib.Omega.{arith}
use lib.ListN.{length, get_or, take}
use borrow.Author.Tests.{le-leb, lt-leb}
use Rattle.numbers.specs.Numbers.{write_number}
use Rattle.timetable.specs.Formats.{bytes_of}
use Rattle.timetable.specs.Outputs.{put}
use Rattle.timetable.proofs.BuffersFilled.{put_two}
use Rattle.std.proofs.lemmas.List.{take_all, take_more}
use Rattle.fields.specs.between.Putting.{place_behind, put_from, Puts, Places}

-- the bytes of one number, and of two rows of numbers
pub bytes_one : (x : ℕ) → bytes_of (x ∷ []) ≡ write_number x
unfolding bytes_of flat_map
bytes_one x = append-nil (write_number x)

flat_append : {A B : Type 0} (f : A → List B) (xs ys : List A) → flat_map f (xs ++ ys) ≡ flat_map f xs ++ flat_map f ys
unfolding flat_map
flat_append f [] ys = refl
flat_append f (x ∷ xs) ys = ap (λ (l : List _). f x ++ l) (flat_append f xs ys) ∙ sym (append_assoc (f x) (flat_map f xs) (flat_map f ys))

pub bytes_two : (xs ys : List ℕ) → bytes_of (xs ++ ys) ≡ bytes_of xs ++ bytes_of ys
unfolding bytes_of
bytes_two xs ys = flat_append write_number xs ys

-- a place that is not beyond the last
module _ (at : ℕ) (ns : List ℕ) (before : List ℕ) (r : ℕ) (after : List ℕ) (k : ℕ) where
  pub near : at ≤ 1000000000 → Puts at ns before r after k → Places at ns before r after k
  unfolding place_behind put_from
  near h (p, q, b) = (p ∙ rw (le-leb at 1000000000 h), q ∙ rw (le-leb at 1000000000 h), b)

  pub near_puts : at ≤ 1000000000 → Places at ns before r after k → Puts at ns before r after k
  unfolding place_behind put_from
  near_puts h (p, q, b) = (rw (le-leb at 1000000000 h) p, rw (le-leb at 1000000000 h) q, b)

-- beyond it nothing is put
pub far_puts : (at : ℕ) (ns before : List ℕ) (k : ℕ) → 1000000000 < at → Puts at ns before at before k
unfolding place_behind put_from
far_puts at ns before k h = (rw (lt-leb at 1000000000 h), rw (lt-leb at 1000000000 h), omega arith)

-- one number, by its bytes
pub one_near : (at x : ℕ) (before : List ℕ) (r : ℕ) (after : List ℕ) (k : ℕ) → at ≤ 1000000000 → Puts at (x ∷ []) before r after k
    → (r ≡ at + length (write_number x)) × (after ≡ put at (write_number x) before) × (r ≤ at + k)
one_near at x before r after k h w =
    let (p, q, b) = near at (x ∷ []) before r after k h w in
    (p ∙ ap (λ (l : List ℕ). at + length l) (bytes_one x), q ∙ ap (λ (l : List ℕ). put at l before) (bytes_one x), b)

pub one_puts : (at x : ℕ) (before : List ℕ) (r : ℕ) (after : List ℕ) (k : ℕ) → at ≤ 1000000000
    → (r ≡ at + length (write_number x)) × (after ≡ put at (write_number x) before) × (r ≤ at + k) → Puts at (x ∷ []) before r after k
one_puts at x before r after k h (p, q, b) =
    near_puts at (x ∷ []) before r after k h (p ∙ ap (λ (l : List ℕ). at + length l) (sym (bytes_one x)), q ∙ ap (λ (l : List ℕ). put at l before) (sym (bytes_one x)), b)

-- numbers put behind numbers
pub places_two : (at r s : ℕ) (xs ys b c d : List ℕ) (j k : ℕ) → Places at xs b r c j → Places r ys c s d k → Places at (xs ++ ys) b s d (j + k)
places_two at r s xs ys b c d j k (p, u, h) (q, v, i) =
    let (x, y) = put_two at r s (bytes_of xs) (bytes_of ys) b c d p u q v in
    rw (bytes_two xs ys) (x, y, omega arith)

-- numbers put one by one, as far as an index
module _ (row : List ℕ) (i at : ℕ) where
  pub numbers_more : i < length row → (next later : ℕ) (b c d : List ℕ) (j k : ℕ) → Places at (take i row) b next c j
      → (later ≡ next + length (write_number (get_or row i 0))) × (d ≡ put next (write_number (get_or row i 0)) c) × (later ≤ next + k)
      → Places at (take (i + 1) row) b later d (j + k)
  numbers_more h next later b c d j k p (q, r, s) =
      let one = bytes_one (get_or row i 0) in
      rw (take_more row i 0 h) (places_two at next later (take i row) (get_or row i 0 ∷ []) b c d j k p (rw one q, rw one r, s))

  pub numbers_all : length row ≤ i → (next : ℕ) (b c : List ℕ) (j k : ℕ) → j ≤ k → Places at (take i row) b next c j → Places at row b next c k
  numbers_all h next b c j k m p = let (q, r, s) = rw (take_all i row h) at p in (q, r, omega arith)

-- nothing put, and rows put one behind the other, each as the numbers f
pub places_none : (at : ℕ) (b : List ℕ) → Places at [] b at b 0
unfolding bytes_of flat_map put
places_none at b = (omega arith, refl, omega arith)

module _ {A : Type 0} (f : A → List ℕ) (rows : List A) (i at : ℕ) (y : A) where
  pub places_more : i < length rows → (next later : ℕ) (b c d : List ℕ) (j k : ℕ) → Places at (flat_map f (take i rows)) b next c j
      → Places next (f (get_or rows i y)) c later d k → Places at (flat_map f (take (i + 1) rows)) b later d (j + k)
  unfolding flat_map
  places_more h next later b c d j k p q = rw one_more (places_two at next later (flat_map f (take i rows)) (f (get_or rows i y)) b c d j k p q)
    where
      one_more : flat_map f (take (i + 1) rows) ≡ flat_map f (take i rows) ++ f (get_or rows i y)
      one_more = ap (flat_map f) (take_more rows i y h) ∙ flat_append f (take i rows) (get_or rows i y ∷ []) ∙ ap (λ (l : List ℕ). flat_map f (take i rows) ++ l) (append-nil (f (get_or rows i y)))

pub places_all : {A : Type 0} (f : A → List ℕ) (rows : List A) (i at next : ℕ) (b c : List ℕ) (j k : ℕ) → length rows ≤ i → j ≤ k
    → Places at (flat_map f (take i rows)) b next c j → Places at (flat_map f rows) b next c k
places_all f rows i at next b c j k h m p = let (q, r, s) = rw (take_all i rows h) at p in (q, r, omega arith)
