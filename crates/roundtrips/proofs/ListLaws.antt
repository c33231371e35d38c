-- Laws of lists that the proofs of this crate share. Each is an induction on the list. Assumes nothing.
use Prim.Native.Nat.{ℕ, ◌*◌, ◌≤◌}
use mathlib.Core.Path.{◌≡◌, refl, sym, ap, subst}
use mathlib.Core.Bool.{Bool, true, false, not, ◌&&◌, ◌||◌}
use mathlib.Core.List.{List, [], ◌∷◌, ◌++◌, flat_map}
use Rattle.std.specs.Prelude.{None, Some}
use native.Mathlib.Omega.{arith}
use lib.Dec.{T}
use lib.ListN.{length, length-append}
use Rattle.std.specs.Prelude.{if◌then◌else◌}
use Rattle.base.specs.Lists.{any, every, keep, first, each_two}
use Rattle.base.proofs.Tests.{T_true, true_T, every_head, every_tail, every_cons, every_both, every_keep, kept_passes}
use Rattle.base.proofs.Sorted.{two_head, two_tail, two_cons}

module _ {A : Type 0} where
  -- the front and the rear of a list
  pub every_front : (f : A → Bool) (xs ys : List A) → T (every f (xs ++ ys)) → T (every f xs)
  unfolding every
  every_front f [] ys t = tt
  every_front f (x ∷ xs) ys t = every_cons f x xs (every_head f x (xs ++ ys) t) (every_front f xs ys (every_tail f x (xs ++ ys) t))

  pub every_rear : (f : A → Bool) (xs ys : List A) → T (every f (xs ++ ys)) → T (every f ys)
  every_rear f [] ys t = t
  every_rear f (x ∷ xs) ys t = every_rear f xs ys (every_tail f x (xs ++ ys) t)

  pub two_front : (r : A → A → Bool) (xs ys : List A) → T (each_two r (xs ++ ys)) → T (each_two r xs)
  unfolding each_two
  two_front r [] ys t = tt
  two_front r (x ∷ xs) ys t = two_cons r x xs (every_front (r x) xs ys (two_head r x (xs ++ ys) t)) (two_front r xs ys (two_tail r x (xs ++ ys) t))

  -- each is before the last
  pub two_last : (r : A → A → Bool) (xs : List A) (y : A) → T (each_two r (xs ++ (y ∷ []))) → T (every (λ x. r x y) xs)
  unfolding every
  two_last r [] y t = tt
  two_last r (x ∷ xs) y t =
      every_cons (λ x. r x y) x xs (every_head (r x) y [] (every_rear (r x) xs (y ∷ []) (two_head r x (xs ++ (y ∷ [])) t)))
      (two_last r xs y (two_tail r x (xs ++ (y ∷ [])) t))

-- what is kept of what is kept, where the one test is within the other
pub keep_keep : {A : Type 0} (p q : A → Bool) → ((x : A) → T (p x) → T (q x)) → (xs : List A) → keep p (keep q xs) ≡ keep p xs
unfolding keep
keep_keep p q h [] = refl
keep_keep p q h (x ∷ xs) = go (q x) refl (p x) refl (keep_keep p q h xs)
  where
    go : (b : Bool) → q x ≡ b → (c : Bool) → p x ≡ c → keep p (keep q xs) ≡ keep p xs
        → keep p (if b then x ∷ keep q xs else keep q xs) ≡ (if c then x ∷ keep p xs else keep p xs)
    go true e true f ih = rw f (ap (λ (l : List _). x ∷ l) ih)
    go true e false f ih = rw f ih
    go false e true f ih = absurd (subst T e (h x (true_T (p x) f)))
    go false e false f ih = ih

-- lists of at most w elements each
pub flatMap_length : {A B : Type 0} (f : A → List B) (w : ℕ) (p : A → Bool) → ((x : A) → T (p x) → length (f x) ≤ w) → (xs : List A) → T (every p xs)
    → length (flat_map f xs) ≤ length xs * w
unfolding flat_map
flatMap_length f w p h [] t = omega arith
flatMap_length f w p h (x ∷ xs) t =
    omega (arith, length-append (f x) (flat_map f xs), h x (every_head p x xs t), flatMap_length f w p h xs (every_tail p x xs t))

pub none_any : {A : Type 0} (f : A → Bool) (xs : List A) → any f xs ≡ false → T (every (λ x. not (f x)) xs)
unfolding any every
none_any f [] e = tt
none_any f (x ∷ xs) e = go (f x) e (none_any f xs)
  where
    go : (b : Bool) → b || any f xs ≡ false → (any f xs ≡ false → T (every (λ x. not (f x)) xs)) → T (not b && every (λ x. not (f x)) xs)
    go true e ih = absurd (true_T false (sym e))
    go false e ih = ih e

-- no element fails

pub first_none : {A : Type 0} (f : A → Bool) (xs : List A) → first (λ x. not (f x)) xs ≡ None → T (every f xs)
unfolding first every
first_none f [] e = tt
first_none f (x ∷ xs) e = go (f x) e (first_none f xs)
  where
    go : (b : Bool) → (if not b then Some x else first (λ x. not (f x)) xs) ≡ None → (first (λ x. not (f x)) xs ≡ None → T (every f xs)) → T (b && every f xs)
    go true e ih = ih e
    go false e ih = let z : ◌≡◌ {A = ℕ} 0 1 = cc in absurd (omega arith)

pub none_first : {A : Type 0} (f : A → Bool) (xs : List A) → T (every f xs) → first (λ x. not (f x)) xs ≡ None
unfolding first every
none_first f [] t = refl
none_first f (x ∷ xs) t = rw (T_true (f x) (every_head f x xs t)) (none_first f xs (every_tail f x xs t))

-- what is kept of elements that all pass another test
pub kept_both : {A : Type 0} (f p : A → Bool) (xs : List A) → T (every p xs) → T (every (λ x. f x && p x) (keep f xs))
kept_both f p xs t = every_both f p (keep f xs) (kept_passes f xs) (every_keep p f xs t)
