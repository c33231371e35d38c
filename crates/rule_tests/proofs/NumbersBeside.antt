-- A number that is none of some rows' numbers has the default beside it. What a `match` on a number says in its last
-- arm, that it is none of the arms' numbers, is read off the rows, so that a row more changes nothing here. Assumes
-- nothing.
use Prim.Native.Nat.{ℕ}
use mathlib.Core.Path.{◌≡◌, refl}
use mathlib.Core.List.{List, [], ◌∷◌}
use borrow.Author.Tests.{ne_eqb}
use Rattle.rule_tests.specs.between.Tests.{beside}

-- none of the rows' numbers, as a `match` with an arm for each row says it
abbrev pub NoneOf : {A : Type 0} → Type 0 → List (ℕ × A) → ℕ → Type 0
NoneOf N [] x = N
NoneOf N ((k, a) ∷ rows) x = NoneOf (N × (x ≡ k → ⊥)) rows x

before : {A : Type 0} (N : Type 0) (rows : List (ℕ × A)) (x : ℕ) → NoneOf N rows x → N
before N [] x h = h
before N ((k, a) ∷ rows) x h = (before (N × (x ≡ k → ⊥)) rows x h).0

pub beside_none : {A : Type 0} (N : Type 0) (rows : List (ℕ × A)) (x : ℕ) (d : A) → NoneOf N rows x → beside x rows d ≡ d
unfolding beside
beside_none N [] x d h = refl
beside_none N ((k, a) ∷ rows) x d h =
    rw (ne_eqb x k (before (N × (x ≡ k → ⊥)) rows x h).1) (beside_none (N × (x ≡ k → ⊥)) rows x d h)
