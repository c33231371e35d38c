-- Tests over lists, and the order of lists of numbers. Assumes nothing.
use Rattle.std.specs.Prelude.{ℕ, ◌+◌, Bool, true, false, ◌&&◌, ◌||◌, List, [], ◌∷◌, ◌++◌, map, ltb, leb, eqb}
use Rattle.std.specs.Prelude.{Option, None, Some}
use Rattle.std.specs.List.{list_any, list_all, filter, find}
use Rattle.base.specs.Choice.{◌if◌else◌}
use Rattle.std.specs.Prelude.{if◌then◌else◌}

module _ {A : Type 0} where
  -- some element passes the test
  unfoldable pub any : (A → Bool) → List A → Bool
  any f xs = list_any f xs

  -- each element passes the test
  unfoldable pub every : (A → Bool) → List A → Bool
  every f xs = list_all f xs

  -- the elements that pass the test, in their order
  unfoldable pub keep : (A → Bool) → List A → List A
  keep f xs = filter f xs

  -- how many pass the test
  unfoldable pub count : (A → Bool) → List A → ℕ
  count f [] = 0
  count f (x ∷ xs) = (1 if f x else 0) + count f xs

  -- the first that passes the test
  unfoldable pub first : (A → Bool) → List A → Option A
  first f xs = find f xs

  -- the test holds of what is there; false where nothing is
  abbrev pub is : (A → Bool) → Option A → Bool
  is f None = false
  is f (Some x) = f x

  -- the test holds of each two, the one before the other in the list
  unfoldable pub each_two : (A → A → Bool) → List A → Bool
  each_two f [] = true
  each_two f (x ∷ xs) = every (f x) xs && each_two f xs

  -- the sum of a number for each element
  unfoldable pub sum : (A → ℕ) → List A → ℕ
  sum f [] = 0
  sum f (x ∷ xs) = f x + sum f xs

  -- each two elements, the one before the other in the list
  unfoldable pub pairs : List A → List (A × A)
  pairs [] = []
  pairs (x ∷ xs) = map (λ y. (x, y)) xs ++ pairs xs

-- the number is one of lo..hi
abbrev pub within : ℕ → ℕ → ℕ → Bool
within lo hi x = leb lo x && leb x hi

-- lists of numbers, compared from the left: at the first place where they differ, or where one ends, the one is below
-- the other
unfoldable pub below : List ℕ → List ℕ → Bool
below [] [] = false
below [] (y ∷ ys) = true
below (x ∷ xs) [] = false
below (x ∷ xs) (y ∷ ys) = ltb x y || (eqb x y && below xs ys)

unfoldable pub same : List ℕ → List ℕ → Bool
same [] [] = true
same [] (y ∷ ys) = false
same (x ∷ xs) [] = false
same (x ∷ xs) (y ∷ ys) = eqb x y && same xs ys

-- each number is above all before it
unfoldable pub rising : List ℕ → Bool
rising xs = each_two ltb xs

-- The key ring of this module: `unfolding opened` opens every definition above.
unfoldable pub opened : Unit {0}
unfolding any every keep count first each_two sum pairs below same rising
opened = tt
