-- The groups' lists and the pairs' lists together are the whole list of findings, whatever is counted: a finding is in
-- just one group's list or one pair's list, since of the groups just one has its station and just one its far station.
-- Assumes nothing.
use Prim.Native.Nat.{ℕ, ◌+◌, ◌<◌}
use mathlib.Core.Path.{◌≡◌, refl, ◌∙◌}
use mathlib.Core.Bool.{Bool, true, false, ◌&&◌}
use mathlib.Core.List.{List, [], ◌∷◌, map}
use native.Mathlib.Omega.{arith}
use lib.Dec.{T, eqb, ltb}
use borrow.Author.Tests.{eqb-true, eqb-false, eq-eqb, ne_eqb, lt-ltb}
use Rattle.base.specs.Choice.{◌if◌else◌}
use Rattle.std.specs.Prelude.{if◌then◌else◌}
use Rattle.base.specs.Lists.{every, keep, count, sum, pairs}
use Rattle.base.proofs.Tests.{and_l, and_r, by_value}
use Rattle.base.proofs.Counts.{count_same, met_once}
use Rattle.timetable.specs.Types.{Station, Finding}
use Rattle.timetable.specs.Groups.{Grouping, in_group}
use Rattle.timetable.specs.Findings.{Spanning, picked, inside, between}

module _ (q : Finding → Bool) where
  -- how many findings of a part of the list pass the test
  unfoldable counted : List Spanning → (Spanning → Bool) → ℕ
  counted xs p = count q (picked p xs)

  counted_cons : (x : Spanning) (xs : List Spanning) (p : Spanning → Bool) → counted (x ∷ xs) p ≡ (1 if p x && q x.found else 0) + counted xs p
  unfolding counted picked keep count
  counted_cons x xs p = go (p x)
    where
      go : (c : Bool)
          → count q (map (λ y. y.found) (if c then x ∷ keep p xs else keep p xs))
          ≡ (1 if c && q x.found else 0) + count q (map (λ y. y.found) (keep p xs))
      go true = refl
      go false = omega arith

  -- one more finding x adds one to each part that has it; p i is the part of i
  one_more : {I : Type 0} (p : I → Spanning → Bool) (x : Spanning) (xs : List Spanning) (is : List I)
      → sum (λ i. counted (x ∷ xs) (p i)) is ≡ (if q x.found then count (λ i. p i x) is else 0) + sum (λ i. counted xs (p i)) is
  unfolding sum count
  one_more p x xs [] = go (q x.found)
    where
      go : (b : Bool) → 0 ≡ (if b then 0 else 0) + 0
      go true = refl
      go false = refl
  one_more p x xs (i ∷ is) = rw (counted_cons x xs (p i), one_more p x xs is) (go (p i x) (q x.found))
    where
      go : (c b : Bool)
          → ((1 if c && b else 0) + counted xs (p i)) + ((if b then count (λ j. p j x) is else 0) + sum (λ j. counted xs (p j)) is)
          ≡ (if b then (1 if c else 0) + count (λ j. p j x) is else 0) + (counted xs (p i) + sum (λ j. counted xs (p j)) is)
      go true true = omega arith
      go true false = omega arith
      go false true = omega arith
      go false false = omega arith

  nothing : {I : Type 0} (p : I → Spanning → Bool) (is : List I) → sum (λ i. counted [] (p i)) is ≡ 0
  unfolding sum counted picked keep count
  nothing p [] = refl
  nothing p (i ∷ is) = omega (arith, nothing p is)

-- both stations of a finding pass the test
abbrev pub spans : (Station → Bool) → Spanning → Bool
spans placed x = placed x.found.station && placed x.far

-- γ has stations that pass `placed` in just one of the groups gs
module _ (γ : Grouping) (gs : List ℕ) (placed : Station → Bool)
    (grouped : (k : Station) → T (placed k) → 0 < γ k) (once : (k : Station) → T (placed k) → count (eqb (γ k)) gs ≡ 1) where
  -- for a station in a group, to be in g is to have the group g
  in_group_is : (k : Station) → 0 < γ k → (g : ℕ) → in_group γ g k ≡ eqb (γ k) g
  unfolding in_group
  in_group_is k h g =
      by_value (eqb (γ k) g)
      (λ e. rw (e, lt-ltb 0 g (omega (arith, eqb-true (γ k) g e)), eq-eqb g (γ k) (omega (arith, eqb-true (γ k) g e))))
      (λ e. rw (e, ne_eqb g (γ k) (λ u. eqb-false (γ k) g e (omega arith))) (no (ltb 0 g)))
    where
      no : (b : Bool) → (b && false) ≡ false
      no true = refl
      no false = refl

  in_one : (k : Station) → T (placed k) → count (λ g. in_group γ g k) gs ≡ 1
  in_one k t = count_same (λ g. in_group γ g k) (eqb (γ k)) (in_group_is k (grouped k t)) gs ∙ once k t

  in_parts : (x : Spanning) → T (spans placed x) → count (λ g. inside γ g x) gs + count (λ gh. between γ gh.0 gh.1 x) (pairs gs) ≡ 1
  unfolding inside between
  in_parts x t =
      met_once (λ g. in_group γ g x.found.station) (λ g. in_group γ g x.far) gs
      (in_one x.found.station (and_l (placed x.found.station) (placed x.far) t))
      (in_one x.far (and_r (placed x.found.station) (placed x.far) t))

  -- whatever is counted, the groups' lists and the pairs' lists have it together as often as the whole list
  pub partition : (q : Finding → Bool) (xs : List Spanning) → T (every (spans placed) xs)
      → sum (λ g. count q (picked (inside γ g) xs)) gs + sum (λ gh. count q (picked (between γ gh.0 gh.1) xs)) (pairs gs)
      ≡ count q (map (λ x. x.found) xs)
  unfolding every count counted
  partition q [] t = omega (arith, nothing q (inside γ) gs, nothing q (λ gh. between γ gh.0 gh.1) (pairs gs))
  partition q (x ∷ xs) t =
      go _ _ _ _ _ _ _ (q x.found)
      (in_parts x (and_l (spans placed x) (every (spans placed) xs) t)) (partition q xs (and_r (spans placed x) (every (spans placed) xs) t))
      (one_more q (inside γ) x xs gs) (one_more q (λ gh. between γ gh.0 gh.1) x xs (pairs gs))
    where
      go : (i b u v u' v' k : ℕ) (c : Bool) → i + b ≡ 1 → u + v ≡ k → u' ≡ (if c then i else 0) + u → v' ≡ (if c then b else 0) + v
          → u' + v' ≡ (1 if c else 0) + k
      go i b u v u' v' k true p h e f = omega arith
      go i b u v u' v' k false p h e f = omega arith
