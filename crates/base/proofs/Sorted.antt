-- Laws of lists in order: what keeping, mapping, joining and weakening leave of an order of each two elements, what
-- stands in such a list once at most, and that `below` is a strict order of lists of numbers. Each is by induction on
-- the list. Assumes nothing.
use Prim.Native.Nat.{ℕ, ◌+◌, ◌≤◌, ◌<◌}
use mathlib.Core.Path.{◌≡◌, refl, sym, ap₂}
use mathlib.Core.Bool.{Bool, true, false, not, ◌&&◌}
use mathlib.Core.List.{List, [], ◌∷◌, ◌++◌, map}
use native.Mathlib.Omega.{arith}
use lib.Dec.{T, not_T, ltb, eqb, ltb→lt, lt→ltb, eqb→eq, eqb_refl}
use borrow.Author.Tests.{ltb-true, ltb-false, eqb-true, eqb-false, eq-eqb, ne_eqb}
use Rattle.base.specs.Choice.{◌if◌else◌}
use Rattle.std.specs.Prelude.{if◌then◌else◌}
use Rattle.base.specs.Lists.{any, every, keep, count, each_two, sum, below, same, rising}
use Rattle.base.proofs.Tests.{true_T, and_l, and_r, both, or_l, or_r, or_cases, every_head, every_tail, every_cons, every_weaker, every_both, every_keep, every_append, every_map}
use Rattle.base.proofs.Counts.{count_none, sum_zero}

-- each two pass

module _ {A : Type 0} where
  pub two_head : (f : A → A → Bool) (x : A) (xs : List A) → T (each_two f (x ∷ xs)) → T (every (f x) xs)
  unfolding each_two
  two_head f x xs t = and_l (every (f x) xs) (each_two f xs) t

  pub two_tail : (f : A → A → Bool) (x : A) (xs : List A) → T (each_two f (x ∷ xs)) → T (each_two f xs)
  unfolding each_two
  two_tail f x xs t = and_r (every (f x) xs) (each_two f xs) t

  pub two_cons : (f : A → A → Bool) (x : A) (xs : List A) → T (every (f x) xs) → T (each_two f xs) → T (each_two f (x ∷ xs))
  unfolding each_two
  two_cons f x xs t u = both (every (f x) xs) (each_two f xs) t u

  -- in an order it is enough to compare neighbours
  pub two_step : (f : A → A → Bool) → ((x y z : A) → T (f x y) → T (f y z) → T (f x z))
      → (x y : A) (ys : List A) → T (f x y) → T (each_two f (y ∷ ys)) → T (each_two f (x ∷ y ∷ ys))
  two_step f across x y ys t u =
      two_cons f x (y ∷ ys) (every_cons (f x) y ys t (every_weaker (f y) (f x) (λ z v. across x y z t v) ys (two_head f y ys u))) u

  pub two_keep : (f : A → A → Bool) (p : A → Bool) (xs : List A) → T (each_two f xs) → T (each_two f (keep p xs))
  unfolding each_two keep
  two_keep f p [] t = tt
  two_keep f p (x ∷ xs) t = go (p x) (two_keep f p xs (two_tail f x xs t))
    where
      go : (b : Bool) → T (each_two f (keep p xs)) → T (each_two f (if b then x ∷ keep p xs else keep p xs))
      go true ih = two_cons f x (keep p xs) (every_keep (f x) p xs (two_head f x xs t)) ih
      go false ih = ih

  -- what passes p stands before what passes q
  pub two_append : (f : A → A → Bool) (p q : A → Bool) → ((x y : A) → T (p x) → T (q y) → T (f x y))
      → (xs ys : List A) → T (each_two f xs) → T (each_two f ys) → T (every p xs) → T (every q ys) → T (each_two f (xs ++ ys))
  unfolding each_two every
  two_append f p q h [] ys s t u v = t
  two_append f p q h (x ∷ xs) ys s t u v =
      two_cons f x (xs ++ ys) (every_append (f x) xs ys (two_head f x xs s) (every_weaker q (f x) (λ y. h x y (every_head p x xs u)) ys v))
      (two_append f p q h xs ys (two_tail f x xs s) t (every_tail p x xs u) v)

  -- another order, which follows from the first where both elements pass p
  pub two_weaker : (f g : A → A → Bool) (p : A → Bool) → ((x y : A) → T (p x) → T (p y) → T (f x y) → T (g x y))
      → (xs : List A) → T (every p xs) → T (each_two f xs) → T (each_two g xs)
  unfolding each_two every
  two_weaker f g p h [] t u = tt
  two_weaker f g p h (x ∷ xs) t u =
      two_cons g x xs
      (every_weaker (λ y. p y && f x y) (g x) (λ y v. h x y (every_head p x xs t) (and_l (p y) (f x y) v) (and_r (p y) (f x y) v)) xs
      (every_both p (f x) xs (every_tail p x xs t) (two_head f x xs u)))
      (two_weaker f g p h xs (every_tail p x xs t) (two_tail f x xs u))

  -- of two elements that pass q neither may stand before the other: there is one at most
  pub two_once : (f : A → A → Bool) (q : A → Bool) → ((x y : A) → T (q x) → T (q y) → ¬ T (f x y)) → (xs : List A) → T (each_two f xs) → count q xs ≤ 1
  unfolding each_two count
  two_once f q h [] t = omega arith
  two_once f q h (x ∷ xs) t = go (q x) refl (two_once f q h xs (two_tail f x xs t))
    where
      none : T (q x) → T (every (f x) xs) → count q xs ≡ 0
      none u v = count_none q xs (every_weaker (f x) (λ y. not (q y)) (λ y s. not_T (q y) (λ w. h x y u w s)) xs v)

      go : (b : Bool) → q x ≡ b → count q xs ≤ 1 → (1 if b else 0) + count q xs ≤ 1
      go true e ih = omega (arith, none (rw e tt) (two_head f x xs t))
      go false e ih = omega arith

  pub two_map : {B : Type 0} (f : B → B → Bool) (g : A → B) (xs : List A) → each_two f (map g xs) ≡ each_two (λ x y. f (g x) (g y)) xs
  unfolding each_two
  two_map f g [] = refl
  two_map f g (x ∷ xs) = ap₂ (λ a b. a && b) (every_map (f (g x)) g xs) (two_map f g xs)

-- rising by a number of each element

module _ {A : Type 0} (g : A → ℕ) where
  -- the one has the smaller number
  abbrev pub smaller : A → A → Bool
  smaller x y = ltb (g x) (g y)

  pub smaller_across : (x y z : A) → T (smaller x y) → T (smaller y z) → T (smaller x z)
  smaller_across x y z t u = lt→ltb (g x) (g z) (omega (arith, ltb→lt (g x) (g y) t, ltb→lt (g y) (g z) u))

pub rising_map : {A : Type 0} (g : A → ℕ) (xs : List A) → rising (map g xs) ≡ each_two (smaller g) xs
unfolding rising
rising_map g xs = two_map ltb g xs

module _ {A : Type 0} where
  -- a number for the one element that has the number k, in a list rising by that number
  pub sum_once : (g : A → ℕ) (k r : ℕ) (xs : List A) → T (each_two (smaller g) xs) → T (any (λ x. eqb k (g x)) xs) → sum (λ x. r if eqb (g x) k else 0) xs ≡ r
  unfolding sum any
  sum_once g k r [] o t = absurd t
  sum_once g k r (x ∷ xs) o t = go (eqb (g x) k) refl (sum_once g k r xs (two_tail (smaller g) x xs o))
    where
      -- those after x are above it
      later : eqb (g x) k ≡ true → sum (λ y. r if eqb (g y) k else 0) xs ≡ 0
      later e =
          sum_zero (λ y. r if eqb (g y) k else 0) (smaller g x)
          (λ y l. rw (ne_eqb (g y) k (λ q. omega (arith, eqb-true (g x) k e, ltb→lt (g x) (g y) l)))) xs (two_head (smaller g) x xs o)

      among_later : eqb (g x) k ≡ false → T (any (λ y. eqb k (g y)) xs)
      among_later e = or_cases (eqb k (g x)) (any (λ y. eqb k (g y)) xs) t (λ q. absurd (eqb-false (g x) k e (sym (eqb→eq k (g x) q)))) (λ q. q)

      go : (b : Bool) → eqb (g x) k ≡ b → (T (any (λ y. eqb k (g y)) xs) → sum (λ y. r if eqb (g y) k else 0) xs ≡ r)
          → (r if b else 0) + sum (λ y. r if eqb (g y) k else 0) xs ≡ r
      go true e ih = omega (arith, later e)
      go false e ih = omega (arith, ih (among_later e))

-- lists of numbers

pub same_refl : (xs : List ℕ) → T (same xs xs)
unfolding same
same_refl [] = tt
same_refl (x ∷ xs) = both (eqb x x) (same xs xs) (eqb_refl x) (same_refl xs)

-- the same lists are equal
pub same_equal : (xs ys : List ℕ) → T (same xs ys) → xs ≡ ys
unfolding same
same_equal [] [] t = refl
same_equal [] (y ∷ ys) t = absurd t
same_equal (x ∷ xs) [] t = absurd t
same_equal (x ∷ xs) (y ∷ ys) t =
    ap₂ (λ h r. h ∷ r) (eqb→eq x y (and_l (eqb x y) (same xs ys) t)) (same_equal xs ys (and_r (eqb x y) (same xs ys) t))

pub below_itself : (xs : List ℕ) → ¬ T (below xs xs)
unfolding below
below_itself [] t = t
below_itself (x ∷ xs) t =
    or_cases (ltb x x) (eqb x x && below xs xs) t (λ l. omega (arith, ltb→lt x x l)) (λ r. below_itself xs (and_r (eqb x x) (below xs xs) r))

-- from the heads: below where the first is smaller, or where they are equal and the rests are below
pub below_smaller : (x y : ℕ) (xs ys : List ℕ) → x < y → T (below (x ∷ xs) (y ∷ ys))
unfolding below
below_smaller x y xs ys h = or_l (ltb x y) (eqb x y && below xs ys) (lt→ltb x y h)

pub below_equal : (x y : ℕ) (xs ys : List ℕ) → x ≡ y → T (below xs ys) → T (below (x ∷ xs) (y ∷ ys))
unfolding below
below_equal x y xs ys h t = or_r (ltb x y) (eqb x y && below xs ys) (both (eqb x y) (below xs ys) (true_T (eqb x y) (eq-eqb x y h)) t)

-- and only there
pub below_cases {ℓ} : {P : Type ℓ} (x y : ℕ) (xs ys : List ℕ) → T (below (x ∷ xs) (y ∷ ys)) → (x < y → P) → (x ≡ y → T (below xs ys) → P) → P
unfolding below
below_cases x y xs ys t f g =
    or_cases (ltb x y) (eqb x y && below xs ys) t (λ l. f (ltb→lt x y l))
    (λ r. g (eqb→eq x y (and_l (eqb x y) (below xs ys) r)) (and_r (eqb x y) (below xs ys) r))

pub below_trans : (xs ys zs : List ℕ) → T (below xs ys) → T (below ys zs) → T (below xs zs)
unfolding below
below_trans [] [] zs t u = absurd t
below_trans [] (y ∷ ys) [] t u = u
below_trans [] (y ∷ ys) (z ∷ zs) t u = tt
below_trans (x ∷ xs) [] zs t u = absurd t
below_trans (x ∷ xs) (y ∷ ys) [] t u = u
below_trans (x ∷ xs) (y ∷ ys) (z ∷ zs) t u =
    below_cases x y xs ys t (λ l. below_cases y z ys zs u (λ k. below_smaller x z xs zs (omega arith)) (λ k v. below_smaller x z xs zs (omega arith)))
    (λ l v. below_cases y z ys zs u (λ k. below_smaller x z xs zs (omega arith)) (λ k w. below_equal x z xs zs (omega arith) (below_trans xs ys zs v w)))

-- of two lists one is below, or they are the same
pub below_total : (xs ys : List ℕ) → ¬ T (below xs ys) → ¬ T (same xs ys) → T (below ys xs)
unfolding below same
below_total [] [] n d = d tt
below_total [] (y ∷ ys) n d = absurd (n tt)
below_total (x ∷ xs) [] n d = tt
below_total (x ∷ xs) (y ∷ ys) n d = go (ltb x y) refl (eqb x y) refl (below_total xs ys)
  where
    go : (b : Bool) → ltb x y ≡ b → (c : Bool) → eqb x y ≡ c → (¬ T (below xs ys) → ¬ T (same xs ys) → T (below ys xs)) → T (below (y ∷ ys) (x ∷ xs))
    go true e c q ih = absurd (n (below_smaller x y xs ys (ltb-true x y e)))
    go false e true q ih =
        below_equal y x ys xs (sym (eqb-true x y q))
        (ih (λ t. n (below_equal x y xs ys (eqb-true x y q) t)) (λ t. d (both (eqb x y) (same xs ys) (true_T (eqb x y) q) t)))
    go false e false q ih = below_smaller y x ys xs (omega (arith, ltb-false x y e, eqb-false x y q))
