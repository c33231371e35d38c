-- Reorderings of a list of edits. Document 01, "Sheets and division": "A reordering holds just the edits of the list,
-- equal ones counted apart; the first order is one too." A reordering is a list of positions, so that equal edits are
-- told apart by where they stand. Assumes nothing.
use Rattle.std.specs.Prelude.{Bool, ◌≡◌, ℕ, suc, ◌<◌, ◌≤◌, T, eqb, length, take, drop}
use mathlib.Core.List.{List, [], ◌∷◌, flat_map}
use Rattle.std.specs.Prelude.{if◌then◌else◌}
use Rattle.base.specs.Lists.{count, keep}

-- how often the position i stands in ps
abbrev pub times : ℕ → List ℕ → ℕ
times i ps = count (eqb i) ps

-- at which place i stands first in ps, counted from 0
unfoldable pub place : ℕ → List ℕ → ℕ
place i [] = 0
place i (p ∷ ps) = if eqb i p then 0 else suc (place i ps)

-- what stands at the position i of the list: one element, or nothing behind its end
unfoldable pub at : {A : Type 0} → List A → ℕ → List A
at l i = take 1 (drop i l)

-- the list read along the positions
unfoldable pub along : {A : Type 0} → List A → List ℕ → List A
along l ps = flat_map (at l) ps

-- the history of an area (or group): the edits of the list that name it, in their order
abbrev pub history : {Edit Group : Type 0} → (Edit → Group → Bool) → Group → List Edit → List Edit
history names g es = keep (λ e. names e g) es

-- the two edits name a common area (or group)
abbrev pub Meet : {Edit Group : Type 0} → (Edit → Group → Bool) → Edit → Edit → Type 0
Meet {Group = Group} names e f = (a : Group) × T (names e a) × T (names f a)

-- ps is an order for the edits es
pub record Reordering {Edit Group : Type 0} (names : Edit → Group → Bool) (es : List Edit) (ps : List ℕ) : Type 0 where
  -- every position of the list stands in it exactly once
  pub once : (i : ℕ) → i < length es → times i ps ≡ 1
  -- and nothing else does
  pub nothing_else : (i : ℕ) → length es ≤ i → times i ps ≡ 0
  -- "as long as two that name a common area keep theirs": of two such positions the earlier stands before the later
  pub in_order : (i j : ℕ) (e f : Edit) → at es i ≡ e ∷ [] → at es j ≡ f ∷ [] → i < j → Meet names e f → place i ps < place j ps

-- The key ring of this module: `unfolding opened` opens every definition above.
unfoldable pub opened : Unit {0}
unfolding place at along
opened = tt
