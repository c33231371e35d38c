-- Laws of positions: how often a number stands in a list (`times`), where it stands first (`place`), and a list read
-- along positions (`along`). Most compare a list of positions with `rest`, its numbers less by one and without its
-- zeros: the positions that are left when the first element is taken off. Assumes nothing.
use mathlib.Core.Path.{◌≡◌, refl, sym, ap, ◌∙◌}
use mathlib.Core.Bool.{Bool, true, false}
use mathlib.Core.List.{List, [], ◌∷◌, ◌++◌, map, flat_map}
use Prim.Native.Nat.{ℕ, zero, suc, ◌≤◌, ◌<◌}
use native.Mathlib.Omega.{arith}
use lib.Dec.{eqb, eqb-suc-suc, eqb-zero-suc, eqb-suc-zero}
use lib.ListN.{length, take, drop}
use borrow.Author.Tests.{eq-eqb}
use Rattle.base.specs.Choice.{◌if◌else◌}
use Rattle.std.specs.Prelude.{if◌then◌else◌}
use Rattle.base.specs.Lists.{count}
use Rattle.theory.specs.Reordering.{times, place, at, along}

-- ps without its zeros, and every other number less by one
unfoldable pub rest : List ℕ → List ℕ
rest [] = []
rest (zero ∷ ps) = rest ps
rest (suc p ∷ ps) = p ∷ rest ps

-- how often

pub times_rest : (i : ℕ) (ps : List ℕ) → times i (rest ps) ≡ times (suc i) ps
unfolding count rest
times_rest i [] = refl
times_rest i (zero ∷ ps) = rw (eqb-suc-zero, times_rest i ps) (omega arith)
times_rest i (suc p ∷ ps) = rw (eqb-suc-suc, times_rest i ps)

pub times_zero_suc : (p : ℕ) (ps : List ℕ) → times 0 (suc p ∷ ps) ≡ times 0 ps
unfolding count
times_zero_suc p ps = rw eqb-zero-suc (omega arith)

-- where

pub place_rest : (i j : ℕ) (ps : List ℕ) → place (suc i) ps < place (suc j) ps → place i (rest ps) < place j (rest ps)
unfolding place rest
place_rest i j [] h = h
place_rest i j (zero ∷ ps) h = place_rest i j ps (omega (arith, simp eqb-suc-zero at h))
place_rest i j (suc p ∷ ps) h = go (eqb i p) (eqb j p) (simp eqb-suc-suc at h) (place_rest i j ps)
  where
    go : (b c : Bool) → (if b then 0 else suc (place (suc i) ps)) < (if c then 0 else suc (place (suc j) ps))
        → (place (suc i) ps < place (suc j) ps → place i (rest ps) < place j (rest ps))
        → (if b then 0 else suc (place i (rest ps))) < (if c then 0 else suc (place j (rest ps)))
    go true true h ih = h
    go true false h ih = omega arith
    go false true h ih = omega arith
    go false false h ih = omega (arith, ih (omega arith))

pub place_head : (i : ℕ) (ps : List ℕ) → place i (i ∷ ps) ≡ 0
unfolding place
place_head i ps = rw (eq-eqb i i refl)

pub place_zero_suc : (p : ℕ) (ps : List ℕ) → place 0 (suc p ∷ ps) ≡ suc (place 0 ps)
unfolding place
place_zero_suc p ps = rw eqb-zero-suc

-- a number in front moves the others by one place at most
pub place_cons : (i p : ℕ) (ps : List ℕ) → place i (p ∷ ps) ≤ suc (place i ps)
unfolding place
place_cons i p ps = go (eqb i p)
  where
    go : (b : Bool) → (if b then 0 else suc (place i ps)) ≤ suc (place i ps)
    go true = omega arith
    go false = omega arith

-- what stands at a position

-- lists of one length have an element each at a position, or both have none
pub at_both {ℓ} : {A B : Type 0} {P : Type ℓ} (l : List A) (k : List B) → length l ≡ length k → (i : ℕ)
    → (at l i ≡ [] → at k i ≡ [] → P) → ((x : A) (y : B) → at l i ≡ x ∷ [] → at k i ≡ y ∷ [] → P) → P
unfolding at
at_both [] [] h zero f g = f refl refl
at_both [] [] h (suc i) f g = f refl refl
at_both [] (y ∷ k) h i f g = absurd (omega arith)
at_both (x ∷ l) [] h i f g = absurd (omega arith)
at_both (x ∷ l) (y ∷ k) h zero f g = g x y refl refl
at_both (x ∷ l) (y ∷ k) h (suc i) f g = at_both l k (omega arith) i f g

-- where an element stands is within the list
pub at_within : {A : Type 0} (l : List A) (i : ℕ) (x : A) → at l i ≡ x ∷ [] → i < length l
unfolding at
at_within [] zero x q = let z : ◌≡◌ {A = ℕ} 0 1 = cc in absurd (omega arith)
at_within [] (suc i) x q = let z : ◌≡◌ {A = ℕ} 0 1 = cc in absurd (omega arith)
at_within (y ∷ l) zero x q = omega arith
at_within (y ∷ l) (suc i) x q = omega (arith, at_within l i x q)

-- what l has at the numbers of a list in which no 0 stands is what x ∷ l has there, one further
pub along_rest : {A : Type 0} (x : A) (l : List A) (ps : List ℕ) → times 0 ps ≡ 0 → along (x ∷ l) ps ≡ along l (rest ps)
unfolding count rest along at flat_map
along_rest x l [] h = refl
along_rest x l (zero ∷ ps) h = absurd (omega arith)
along_rest x l (suc p ∷ ps) h = ap (λ (k : List _). take 1 (drop p l) ++ k) (along_rest x l ps (sym (times_zero_suc p ps) ∙ h))

-- an empty list has nothing at any position
pub along_nil : {A : Type 0} (ps : List ℕ) → along {A = A} [] ps ≡ []
unfolding along at flat_map
along_nil [] = refl
along_nil (zero ∷ ps) = along_nil ps
along_nil (suc p ∷ ps) = along_nil ps

-- reading one position after another
pub along_cons : {A : Type 0} (l : List A) (p : ℕ) (ps : List ℕ) → along l (p ∷ ps) ≡ at l p ++ along l ps
unfolding along flat_map
along_cons l p ps = refl

pub along_zero : {A : Type 0} (x : A) (l : List A) (ps : List ℕ) → along (x ∷ l) (0 ∷ ps) ≡ x ∷ along (x ∷ l) ps
unfolding along at flat_map
along_zero x l ps = refl

pub along_suc : {A : Type 0} (x : A) (l : List A) (p : ℕ) (ps : List ℕ) → along (x ∷ l) (suc p ∷ ps) ≡ at l p ++ along (x ∷ l) ps
unfolding along at flat_map
along_suc x l p ps = refl

-- a 0 in front, and every other number more by one

pub times_suc_zero : (i : ℕ) (ps : List ℕ) → times (suc i) (0 ∷ ps) ≡ times (suc i) ps
unfolding count
times_suc_zero i ps = rw eqb-suc-zero (omega arith)

pub place_suc_zero : (i : ℕ) (ps : List ℕ) → place (suc i) (0 ∷ ps) ≡ suc (place (suc i) ps)
unfolding place
place_suc_zero i ps = rw eqb-suc-zero

pub times_shift : (i : ℕ) (ps : List ℕ) → times (suc i) (map suc ps) ≡ times i ps
unfolding count
times_shift i [] = refl
times_shift i (p ∷ ps) = rw (eqb-suc-suc, times_shift i ps)

pub times_shift_zero : (ps : List ℕ) → times 0 (map suc ps) ≡ 0
unfolding count
times_shift_zero [] = refl
times_shift_zero (p ∷ ps) = rw (eqb-zero-suc, times_shift_zero ps)

pub place_shift : (i : ℕ) (ps : List ℕ) → place (suc i) (map suc ps) ≡ place i ps
unfolding place
place_shift i [] = refl
place_shift i (p ∷ ps) = rw (eqb-suc-suc, place_shift i ps)

pub along_shift : {A : Type 0} (x : A) (l : List A) (ps : List ℕ) → along (x ∷ l) (map suc ps) ≡ along l ps
unfolding along at flat_map
along_shift x l [] = refl
along_shift x l (p ∷ ps) = ap (λ (k : List _). take 1 (drop p l) ++ k) (along_shift x l ps)
