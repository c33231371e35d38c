-- A place of a relation adds one number at most, and the trains of four places stand one after the other. Assumes
-- nothing.
use Prim.Native.Nat.{ℕ, ◌+◌, ◌≤◌}
use mathlib.Core.Path.{◌≡◌, refl, sym, ◌∙◌, ap}
use mathlib.Core.Bool.{Bool, true, false}
use mathlib.Core.List.{List, [], ◌∷◌, ◌++◌, map, append_assoc}
use native.Mathlib.Omega.{arith}
use lib.ListN.{length, length-append}
use Rattle.std.specs.Prelude.{if◌then◌else◌}
use Rattle.base.specs.Lists.{keep}
use Rattle.railway.specs.Relations.{present, used}
use Rattle.railway.specs.declared.sorts.Train.{Train}
use Rattle.railway.specs.declared.relation.Trains.{Trains}

-- the train of a place, if it holds one
abbrev pub one : Train → List ℕ
one t = map (λ u. u.0) (keep present (t ∷ []))

pub one_more : (ns : List ℕ) (t : Train) (k : ℕ) → length ns ≤ k → length (ns ++ one t) ≤ k + 1
unfolding keep
one_more ns t k h = go (present t)
  where
    go : (b : Bool) → length (ns ++ map (λ (u : Train). u.0) (if b then t ∷ [] else [])) ≤ k + 1
    go true = omega (arith, h, length-append ns (t.0 ∷ []))
    go false = omega (arith, h, length-append {A = ℕ} ns [])

keep_cons : (x : Train) (xs : List Train) → map (λ u. u.0) (keep present (x ∷ xs)) ≡ one x ++ map (λ u. u.0) (keep present xs)
unfolding keep
keep_cons x xs = go (present x)
  where
    go : (b : Bool) → map (λ (u : Train). u.0) (if b then x ∷ keep present xs else keep present xs) ≡ map (λ (u : Train). u.0) (if b then x ∷ [] else []) ++ map (λ u. u.0) (keep present xs)
    go true = refl
    go false = refl

-- four places, one after the other
pub four_places : (ts : Trains) (head : List ℕ) → (((head ++ one ts.a) ++ one ts.b) ++ one ts.c) ++ one ts.d ≡ head ++ map (λ u. u.0) (used ts)
unfolding used
four_places ts head =
    append_assoc ((head ++ one ts.a) ++ one ts.b) (one ts.c) (one ts.d)
    ∙ append_assoc (head ++ one ts.a) (one ts.b) (one ts.c ++ one ts.d)
    ∙ append_assoc head (one ts.a) (one ts.b ++ (one ts.c ++ one ts.d))
    ∙ ap (λ (l : List ℕ). head ++ (one ts.a ++ (one ts.b ++ l))) (sym (keep_cons ts.c (ts.d ∷ [])))
    ∙ ap (λ (l : List ℕ). head ++ (one ts.a ++ l)) (sym (keep_cons ts.b (ts.c ∷ ts.d ∷ [])))
    ∙ ap (λ (l : List ℕ). head ++ l) (sym (keep_cons ts.a (ts.b ∷ ts.c ∷ ts.d ∷ [])))
