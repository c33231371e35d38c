-- std's comparisons of lists of numbers are those of specs/Lists.antt. Assumes nothing.
use Rattle.std.proofs.Common.{◌≡◌, refl, ap, ℕ, Bool, true, false, ◌&&◌, ◌||◌, List, [], ◌∷◌, nat_eq, nat_lt}
use Rattle.std.specs.Prelude.{Option, Some, cond}
use Rattle.std.specs.declared.cmp.Ordering.{Ordering}
use Rattle.std.specs.declared.cmp.Ordering.TheVariants.{Less, Equal, Greater}
use Rattle.std.specs.Ordering.{nat_cmp, partial_lt, partial_ordering_then, is_some_and, is_lt}
use Rattle.std.specs.Cmp.Lexicographic.{pointwise, slice_partial_cmp}
use Rattle.base.specs.Lists.{same, below}

pub same_lists : (xs ys : List ℕ) → pointwise nat_eq xs ys ≡ same xs ys
unfolding same
same_lists [] [] = refl
same_lists [] (y ∷ ys) = refl
same_lists (x ∷ xs) [] = refl
same_lists (x ∷ xs) (y ∷ ys) = ap (λ (b : Bool). nat_eq x y && b) (same_lists xs ys)

abbrev is_below : List ℕ → List ℕ → Bool
is_below xs ys = partial_lt (slice_partial_cmp (λ (x y : ℕ). Some (nat_cmp x y))) xs ys

pub below_lists : (xs ys : List ℕ) → is_below xs ys ≡ below xs ys
unfolding below
below_lists [] [] = refl
below_lists [] (y ∷ ys) = refl
below_lists (x ∷ xs) [] = refl
below_lists (x ∷ xs) (y ∷ ys) = go (nat_lt x y) (nat_eq x y) (slice_partial_cmp (λ (x y : ℕ). Some (nat_cmp x y)) xs ys) (below xs ys) (below_lists xs ys)
  where
    go : (a b : Bool) (o : Option Ordering) (r : Bool) → is_some_and is_lt o ≡ r
        → is_some_and is_lt (partial_ordering_then (Some (cond a Less (cond b Equal Greater))) o) ≡ (a || (b && r))
    go true b o r e = refl
    go false true o r e = e
    go false false o r e = refl
