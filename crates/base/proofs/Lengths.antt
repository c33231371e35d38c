-- Lengths of what is kept, and lists that are read from an index on: one more element, and what is asked of the rest.
-- Assumes nothing.
use Prim.Native.Nat.{ℕ, suc, ◌+◌, ◌-◌, ◌<◌, ◌≤◌}
use mathlib.Core.Path.{◌≡◌, refl, ◌∙◌}
use mathlib.Core.Bool.{Bool, true, false, ◌&&◌, ◌||◌}
use mathlib.Core.List.{List, [], ◌∷◌}
use native.Mathlib.Numerals.{add-one}
use native.Mathlib.Omega.{arith}
use lib.Dec.{ltb, eqb}
use lib.ListN.{length, get_or, take, drop, drop_of_length-le, length-drop}
use borrow.Author.Tests.{lt-ltb, le-ltb, eq-eqb, ne_eqb}
use lib.Seq.{drop-cons, take_all}
use Rattle.base.specs.Choice.{◌if◌else◌}
use Rattle.std.specs.Prelude.{if◌then◌else◌}
use Rattle.base.specs.Lists.{every, keep, count, below, same}

module _ {A : Type 0} where
  pub length_keep : (f : A → Bool) (xs : List A) → length (keep f xs) ≡ count f xs
  unfolding keep count
  length_keep f [] = refl
  length_keep f (x ∷ xs) = go (f x) (length_keep f xs)
    where
      go : (b : Bool) → length (keep f xs) ≡ count f xs → length (if b then x ∷ keep f xs else keep f xs) ≡ (1 if b else 0) + count f xs
      go true e = omega arith
      go false e = omega arith

  pub keep_no_longer : (f : A → Bool) (xs : List A) → length (keep f xs) ≤ length xs
  unfolding keep
  keep_no_longer f [] = omega arith
  keep_no_longer f (x ∷ xs) = go (f x) (keep_no_longer f xs)
    where
      go : (b : Bool) → length (keep f xs) ≤ length xs → length (if b then x ∷ keep f xs else keep f xs) ≤ suc (length xs)
      go true h = omega arith
      go false h = omega arith

  -- the list from an index on is the element there and the list from the next index on
  pub drop_next : (l : List A) (i : ℕ) (d : A) → i < length l → drop i l ≡ get_or l i d ∷ drop (i + 1) l
  drop_next l i d h = drop-cons l i d h ∙ rw (add-one i)

  -- the part from an index to the end, as a lent part is read
  pub rest_whole : (k : ℕ) (l : List A) → take (length l - k) (drop k l) ≡ drop k l
  rest_whole k l = take_all (length l - k) (drop k l) (simp length-drop (omega arith))

  pub every_next : (f : A → Bool) (l : List A) (i : ℕ) (d : A) → i < length l → every f (drop i l) ≡ (f (get_or l i d) && every f (drop (i + 1) l))
  unfolding every
  every_next f l i d h = rw (drop_next l i d h)

-- two lists of numbers compared from an index on: decided there, equal there, or at the end of both
module _ (a b : List ℕ) (i : ℕ) where
  module _ (h : i < length a) (k : i < length b) where
    below_next : below (drop i a) (drop i b) ≡ (ltb (get_or a i 0) (get_or b i 0) || (eqb (get_or a i 0) (get_or b i 0) && below (drop (i + 1) a) (drop (i + 1) b)))
    unfolding below
    below_next = rw (drop_next a i 0 h, drop_next b i 0 k)

    same_next : same (drop i a) (drop i b) ≡ (eqb (get_or a i 0) (get_or b i 0) && same (drop (i + 1) a) (drop (i + 1) b))
    unfolding same
    same_next = rw (drop_next a i 0 h, drop_next b i 0 k)

    pub below_yes : get_or a i 0 < get_or b i 0 → below (drop i a) (drop i b) ≡ true
    below_yes p = below_next ∙ rw (lt-ltb (get_or a i 0) (get_or b i 0) p)

    pub below_no : get_or b i 0 < get_or a i 0 → below (drop i a) (drop i b) ≡ false
    below_no p = below_next ∙ rw (le-ltb (get_or a i 0) (get_or b i 0) (omega arith), ne_eqb (get_or a i 0) (get_or b i 0) (λ e. omega arith))

    pub below_on : get_or a i 0 ≡ get_or b i 0 → below (drop i a) (drop i b) ≡ below (drop (i + 1) a) (drop (i + 1) b)
    below_on p = below_next ∙ rw (le-ltb (get_or a i 0) (get_or b i 0) (omega arith), eq-eqb (get_or a i 0) (get_or b i 0) p)

    pub same_no : ¬ (get_or a i 0 ≡ get_or b i 0) → same (drop i a) (drop i b) ≡ false
    same_no p = same_next ∙ rw (ne_eqb (get_or a i 0) (get_or b i 0) p)

    pub same_on : get_or a i 0 ≡ get_or b i 0 → same (drop i a) (drop i b) ≡ same (drop (i + 1) a) (drop (i + 1) b)
    same_on p = same_next ∙ rw (eq-eqb (get_or a i 0) (get_or b i 0) p)

  pub below_end : length a ≤ i → length b ≤ i → below (drop i a) (drop i b) ≡ false
  unfolding below
  below_end h k = rw (drop_of_length-le a {i = i} h, drop_of_length-le b {i = i} k)

  pub same_end : length a ≤ i → length b ≤ i → same (drop i a) (drop i b) ≡ true
  unfolding same
  same_end h k = rw (drop_of_length-le a {i = i} h, drop_of_length-le b {i = i} k)
