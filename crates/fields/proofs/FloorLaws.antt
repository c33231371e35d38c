-- The least value and what is left of the entry before, by how many numbers are left to compare with. Assumes nothing.
use Prim.Native.Nat.{ℕ, ◌+◌, ◌-◌, ◌<◌, ◌≤◌, max}
use mathlib.Core.Path.{◌≡◌, refl, sym, ◌∙◌}
use mathlib.Core.List.{List, [], ◌∷◌}
use native.Mathlib.Omega.{arith}
use lib.ListN.{length, get_or, take, drop}
use Rattle.std.proofs.lemmas.List.{take_all}
use borrow.Author.Tests.{eq-eqb, ne_eqb}
use Rattle.timetable.specs.Formats.{least, floor_after}

module _ (lo : ℕ) where
  pub least_none : (floor : List ℕ) → length floor < 1 → lo ≡ least lo floor
  unfolding least
  least_none [] h = refl
  least_none (b ∷ bs) h = absurd (omega arith)

  pub least_last : (floor : List ℕ) → 1 ≤ length floor → length floor < 2 → max lo (get_or floor 0 0 + 1) ≡ least lo floor
  unfolding least
  least_last [] g h = absurd (omega arith)
  least_last (b ∷ []) g h = refl
  least_last (b ∷ c ∷ bs) g h = absurd (omega arith)

  pub least_more : (floor : List ℕ) → 1 ≤ length floor → ¬ (length floor ≡ 1) → max lo (get_or floor 0 0) ≡ least lo floor
  unfolding least
  least_more [] g h = absurd (omega arith)
  least_more (b ∷ []) g h = absurd (h refl)
  least_more (b ∷ c ∷ bs) g h = refl

module _ (n : ℕ) where
  pub after_none : (floor : List ℕ) → length floor < 1 → [] ≡ floor_after n floor
  unfolding floor_after
  after_none [] h = refl
  after_none (b ∷ bs) h = absurd (omega arith)

  pub after_equal : (floor : List ℕ) → 1 ≤ length floor → get_or floor 0 0 ≡ n → take (length floor - 1) (drop 1 floor) ≡ floor_after n floor
  unfolding floor_after
  after_equal [] g e = absurd (omega arith)
  after_equal (b ∷ []) g e = refl
  after_equal (b ∷ c ∷ bs) g e = take_all (length (b ∷ c ∷ bs) - 1) (c ∷ bs) (omega arith) ∙ rw (eq-eqb n b (sym e))

  pub after_other : (floor : List ℕ) → 1 ≤ length floor → ¬ (get_or floor 0 0 ≡ n) → [] ≡ floor_after n floor
  unfolding floor_after
  after_other [] g d = refl
  after_other (b ∷ []) g d = refl
  after_other (b ∷ c ∷ bs) g d = rw (ne_eqb n b (λ q. d (sym q)))
