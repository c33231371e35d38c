-- How what is counted, summed or kept goes through `++`, `map`, `flat_map` and pairs: each law is an induction on the
-- list, by the cases of a test of its head. Assumes nothing.
use Prim.Native.Nat.{ℕ, ◌+◌, ◌≤◌}
use mathlib.Core.Path.{◌≡◌, refl, sym, ◌∙◌, ap, ap₂, fun_ext}
use mathlib.Core.Bool.{Bool, true, false, not, ◌&&◌, ◌||◌}
use mathlib.Core.List.{List, [], ◌∷◌, ◌++◌, map, flat_map}
use native.Mathlib.Omega.{arith}
use lib.Dec.{T}
use Rattle.base.specs.Choice.{◌if◌else◌}
use Rattle.std.specs.Prelude.{if◌then◌else◌}
use Rattle.base.specs.Lists.{any, every, keep, count, sum, pairs}
use Rattle.base.proofs.Tests.{T_true, every_head, every_tail, every_all}

module _ {A : Type 0} (f : A → Bool) where
  pub count_append : (xs ys : List A) → count f (xs ++ ys) ≡ count f xs + count f ys
  unfolding count
  count_append [] ys = omega arith
  count_append (x ∷ xs) ys = omega (arith, count_append xs ys)

  pub count_map : {B : Type 0} (g : B → A) (xs : List B) → count f (map g xs) ≡ count (λ b. f (g b)) xs
  unfolding count
  count_map g [] = refl
  count_map g (x ∷ xs) = rw (count_map g xs)

  pub count_flatMap : {B : Type 0} (g : B → List A) (xs : List B) → count f (flat_map g xs) ≡ sum (λ b. count f (g b)) xs
  unfolding count sum flat_map
  count_flatMap g [] = refl
  count_flatMap g (x ∷ xs) = rw (count_append (g x) (flat_map g xs), count_flatMap g xs)

  -- lists formed of parts, each counted by two others
  pub count_parted : {B : Type 0} (g h k : B → List A) → ((b : B) → count f (g b) ≡ count f (h b) + count f (k b))
      → (xs : List B) → count f (flat_map g xs) ≡ count f (flat_map h xs) + count f (flat_map k xs)
  unfolding count flat_map
  count_parted g h k e [] = refl
  count_parted g h k e (x ∷ xs) =
      omega
      (arith, e x, count_parted g h k e xs, count_append (g x) (flat_map g xs), count_append (h x) (flat_map h xs), count_append (k x) (flat_map k xs))

  -- of those that are kept
  pub count_kept : (g : A → Bool) (xs : List A) → count f (keep g xs) ≡ count (λ x. g x && f x) xs
  unfolding count keep
  count_kept g [] = refl
  count_kept g (x ∷ xs) = go (g x) (count_kept g xs)
    where
      go : (b : Bool) → count f (keep g xs) ≡ count (λ y. g y && f y) xs
          → count f (if b then x ∷ keep g xs else keep g xs) ≡ (1 if b && f x else 0) + count (λ y. g y && f y) xs
      go true e = omega (arith, e)
      go false e = omega (arith, e)

  pub any_count : (xs : List A) → T (any f xs) → 1 ≤ count f xs
  unfolding any count
  any_count [] t = absurd t
  any_count (x ∷ xs) t = go (f x) t (any_count xs)
    where
      go : (b : Bool) → T (b || any f xs) → (T (any f xs) → 1 ≤ count f xs) → 1 ≤ (1 if b else 0) + count f xs
      go true u ih = omega arith
      go false u ih = omega (arith, ih u)

  pub count_any : (xs : List A) → 1 ≤ count f xs → T (any f xs)
  unfolding any count
  count_any [] h = absurd (omega arith)
  count_any (x ∷ xs) h = go (f x) h (count_any xs)
    where
      go : (b : Bool) → 1 ≤ (1 if b else 0) + count f xs → (1 ≤ count f xs → T (any f xs)) → T (b || any f xs)
      go true u ih = tt
      go false u ih = ih (omega arith)

  pub count_none : (xs : List A) → T (every (λ x. not (f x)) xs) → count f xs ≡ 0
  unfolding every count
  count_none [] t = refl
  count_none (x ∷ xs) t = go (f x) t (count_none xs)
    where
      go : (b : Bool) → T (not b && every (λ y. not (f y)) xs) → (T (every (λ y. not (f y)) xs) → count f xs ≡ 0) → (1 if b else 0) + count f xs ≡ 0
      go true u ih = absurd u
      go false u ih = omega (arith, ih u)

  pub keep_append : (xs ys : List A) → keep f (xs ++ ys) ≡ keep f xs ++ keep f ys
  unfolding keep
  keep_append [] ys = refl
  keep_append (x ∷ xs) ys = go (f x) (keep_append xs ys)
    where
      go : (b : Bool) → keep f (xs ++ ys) ≡ keep f xs ++ keep f ys
          → (if b then x ∷ keep f (xs ++ ys) else keep f (xs ++ ys)) ≡ (if b then x ∷ keep f xs else keep f xs) ++ keep f ys
      go true e = rw e
      go false e = e

  -- two lists whose halves keep the same
  pub keep_two : (xs ys xs' ys' : List A) → keep f xs ≡ keep f xs' → keep f ys ≡ keep f ys' → keep f (xs ++ ys) ≡ keep f (xs' ++ ys')
  keep_two xs ys xs' ys' p q = keep_append xs ys ∙ ap₂ ◌++◌ p q ∙ sym (keep_append xs' ys')

  -- two lists formed of parts that keep the same
  pub keep_flatMap : {B : Type 0} (g h : B → List A) → ((b : B) → keep f (g b) ≡ keep f (h b)) → (xs : List B) → keep f (flat_map g xs) ≡ keep f (flat_map h xs)
  unfolding flat_map
  keep_flatMap g h e [] = refl
  keep_flatMap g h e (x ∷ xs) = keep_two (g x) (flat_map g xs) (h x) (flat_map h xs) (e x) (keep_flatMap g h e xs)

  pub keep_none : (xs : List A) → T (every (λ x. not (f x)) xs) → keep f xs ≡ []
  unfolding every keep
  keep_none [] t = refl
  keep_none (x ∷ xs) t = go (f x) t (keep_none xs)
    where
      go : (b : Bool) → T (not b && every (λ y. not (f y)) xs) → (T (every (λ y. not (f y)) xs) → keep f xs ≡ [])
          → (if b then x ∷ keep f xs else keep f xs) ≡ []
      go true u ih = absurd u
      go false u ih = ih u

  -- all are kept where each passes
  pub keep_every : (xs : List A) → T (every f xs) → keep f xs ≡ xs
  unfolding every keep
  keep_every [] t = refl
  keep_every (x ∷ xs) t = rw (T_true (f x) (every_head f x xs t), keep_every xs (every_tail f x xs t))

-- two tests in either order, and a test of what elements are mapped to
module _ {A : Type 0} (f g : A → Bool) where
  pub keep_swap : (xs : List A) → keep f (keep g xs) ≡ keep g (keep f xs)
  unfolding keep
  keep_swap [] = refl
  keep_swap (x ∷ xs) = go (f x) refl (g x) refl (keep_swap xs)
    where
      go : (a : Bool) → f x ≡ a → (b : Bool) → g x ≡ b → keep f (keep g xs) ≡ keep g (keep f xs)
          → keep f (if b then x ∷ keep g xs else keep g xs) ≡ keep g (if a then x ∷ keep f xs else keep f xs)
      go true p true q e = rw (p, q, e)
      go true p false q e = rw (q, e)
      go false p true q e = rw (p, e)
      go false p false q e = e

pub keep_map : {A B : Type 0} (f : B → Bool) (g : A → B) (xs : List A) → keep f (map g xs) ≡ map g (keep (λ x. f (g x)) xs)
unfolding keep
keep_map f g [] = refl
keep_map f g (x ∷ xs) = go (f (g x)) (keep_map f g xs)
  where
    go : (b : Bool) → keep f (map g xs) ≡ map g (keep (λ x. f (g x)) xs)
        → (if b then g x ∷ keep f (map g xs) else keep f (map g xs)) ≡ map g (if b then x ∷ keep (λ x. f (g x)) xs else keep (λ x. f (g x)) xs)
    go true e = rw e
    go false e = e

pub count_same : {A : Type 0} (f g : A → Bool) → ((x : A) → f x ≡ g x) → (xs : List A) → count f xs ≡ count g xs
count_same f g e xs = rw (fun_ext e)

-- sums over a list whose elements pass a test

module _ {A : Type 0} where
  -- what balances at each element that passes balances in sum
  pub sum_balance : (p : A → Bool) (f g u v : A → ℕ) → ((x : A) → T (p x) → f x + u x ≡ g x + v x) → (xs : List A) → T (every p xs)
      → sum f xs + sum u xs ≡ sum g xs + sum v xs
  unfolding sum
  sum_balance p f g u v h [] t = refl
  sum_balance p f g u v h (x ∷ xs) t = omega (arith, h x (every_head p x xs t), sum_balance p f g u v h xs (every_tail p x xs t))

  pub sum_zero : (f : A → ℕ) (p : A → Bool) → ((x : A) → T (p x) → f x ≡ 0) → (xs : List A) → T (every p xs) → sum f xs ≡ 0
  unfolding sum
  sum_zero f p h [] t = refl
  sum_zero f p h (x ∷ xs) t = omega (arith, h x (every_head p x xs t), sum_zero f p h xs (every_tail p x xs t))

  pub count_sum : (p : A → Bool) (xs : List A) → count p xs ≡ sum (λ x. 1 if p x else 0) xs
  unfolding count sum
  count_sum p [] = refl
  count_sum p (x ∷ xs) = ap (λ k. (1 if p x else 0) + k) (count_sum p xs)

-- Two tests over the elements and the pairs of a list: elements that pass both, and pairs of which the one passes x and
-- the other y.
module _ {A : Type 0} (x y : A → Bool) where
  abbrev pub together : A → Bool
  together g = x g && y g

  abbrev pub apart : A × A → Bool
  apart gh = (x gh.0 && y gh.1) || (x gh.1 && y gh.0)

  -- the pairs of one element with those behind it, b and c saying whether it passes x and y
  against : Bool → Bool → List A → ℕ
  against b c hs = count (λ h. (b && y h) || (x h && c)) hs

  against_neither : (hs : List A) → against false false hs ≡ 0
  unfolding against
  against_neither hs = count_none (λ h. x h && false) hs (every_all (λ h. not (x h && false)) (λ h. go (x h)) hs)
    where
      go : (b : Bool) → T (not (b && false))
      go true = tt
      go false = tt

  against_first : (hs : List A) → against true false hs ≡ count y hs
  unfolding against
  against_first hs = count_same (λ h. y h || (x h && false)) y (λ h. go (y h) (x h)) hs
    where
      go : (c b : Bool) → (c || (b && false)) ≡ c
      go true b = refl
      go false true = refl
      go false false = refl

  against_second : (hs : List A) → against false true hs ≡ count x hs
  unfolding against
  against_second hs = count_same (λ h. x h && true) x (λ h. go (x h)) hs
    where
      go : (b : Bool) → (b && true) ≡ b
      go true = refl
      go false = refl

  against_both : (hs : List A) → count x hs ≡ 0 → count y hs ≡ 0 → against true true hs ≡ 0
  unfolding against count
  against_both [] p q = refl
  against_both (h ∷ hs) p q = go (x h) (y h) p q (against_both hs)
    where
      go : (b c : Bool) → (1 if b else 0) + count x hs ≡ 0 → (1 if c else 0) + count y hs ≡ 0
          → (count x hs ≡ 0 → count y hs ≡ 0 → against true true hs ≡ 0) → (1 if c || (b && true) else 0) + against true true hs ≡ 0
      go true c u v ih = absurd (omega arith)
      go false true u v ih = absurd (omega arith)
      go false false u v ih = omega (arith, ih (omega arith) (omega arith))

  -- how often the two tests meet
  met : List A → ℕ
  met gs = count together gs + count apart (pairs gs)

  met_cons : (g : A) (gs : List A) → met (g ∷ gs) ≡ (1 if together g else 0) + against (x g) (y g) gs + met gs
  unfolding met against count pairs
  met_cons g gs =
      omega (arith, count_append apart (map (λ h. (g, h)) gs) (pairs gs), count_map apart (λ h. (g, h)) gs)

  met_never : (gs : List A) → count x gs ≡ 0 → met gs ≡ 0
  unfolding met count pairs
  met_never [] p = refl
  met_never (g ∷ gs) p = met_cons g gs ∙ go (x g) (y g) p (met_never gs)
    where
      go : (b c : Bool) → (1 if b else 0) + count x gs ≡ 0 → (count x gs ≡ 0 → met gs ≡ 0) → (1 if b && c else 0) + against b c gs + met gs ≡ 0
      go true c q ih = absurd (omega arith)
      go false true q ih = omega (arith, against_second gs, ih (omega arith))
      go false false q ih = omega (arith, against_neither gs, ih (omega arith))

  met_never_far : (gs : List A) → count y gs ≡ 0 → met gs ≡ 0
  unfolding met count pairs
  met_never_far [] p = refl
  met_never_far (g ∷ gs) p = met_cons g gs ∙ go (x g) (y g) p (met_never_far gs)
    where
      go : (b c : Bool) → (1 if c else 0) + count y gs ≡ 0 → (count y gs ≡ 0 → met gs ≡ 0) → (1 if b && c else 0) + against b c gs + met gs ≡ 0
      go true true q ih = absurd (omega arith)
      go false true q ih = absurd (omega arith)
      go true false q ih = omega (arith, against_first gs, ih (omega arith))
      go false false q ih = omega (arith, against_neither gs, ih (omega arith))

  -- each test is passed by just one: the two meet in that element, or in just one pair
  pub met_once : (gs : List A) → count x gs ≡ 1 → count y gs ≡ 1 → count together gs + count apart (pairs gs) ≡ 1
  unfolding met count
  met_once [] p q = absurd (omega arith)
  met_once (g ∷ gs) p q = met_cons g gs ∙ go (x g) (y g) p q (met_once gs)
    where
      go : (b c : Bool) → (1 if b else 0) + count x gs ≡ 1 → (1 if c else 0) + count y gs ≡ 1 → (count x gs ≡ 1 → count y gs ≡ 1 → met gs ≡ 1)
          → (1 if b && c else 0) + against b c gs + met gs ≡ 1
      go true true u v ih = omega (arith, against_both gs (omega arith) (omega arith), met_never gs (omega arith))
      go true false u v ih = omega (arith, against_first gs, met_never gs (omega arith))
      go false true u v ih = omega (arith, against_second gs, met_never_far gs (omega arith))
      go false false u v ih = omega (arith, against_neither gs, ih (omega arith) (omega arith))
