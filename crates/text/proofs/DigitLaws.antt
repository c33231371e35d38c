-- Decimal digits by their count and their value. Assumes nothing.
use Prim.Native.Nat.{ℕ, zero, suc, ◌+◌, ◌-◌, ◌/◌, ◌%◌, ◌≤◌, ◌<◌}
use mathlib.Core.Path.{◌≡◌, refl, ap}
use mathlib.Core.List.{[], ◌∷◌, ◌++◌}
use native.Mathlib.Omega.{arith}
use borrow.Author.Tests.{lt-ltb, le-ltb}
use Rattle.listings.specs.Text.{digits}

pub digits_none : (k x : ℕ) → k ≡ 0 → digits k x ≡ []
unfolding digits
digits_none zero x e = refl
digits_none (suc k) x e = absurd (omega arith)

pub digits_last : (k x : ℕ) → ¬ (k ≡ 0) → x < 10 → digits k x ≡ (48 + x) ∷ []
unfolding digits
digits_last zero x z h = absurd (z refl)
digits_last (suc k) x z h = rw (lt-ltb x 10 h)

pub digits_more : (k x : ℕ) → ¬ (k ≡ 0) → 10 ≤ x → digits k x ≡ digits (k - 1) (x / 10) ++ ((48 + x % 10) ∷ [])
unfolding digits
digits_more zero x z h = absurd (z refl)
digits_more (suc k) x z h = rw (le-ltb x 10 h) (ap (λ (j : ℕ). digits j (x / 10) ++ ((48 + x % 10) ∷ [])) step)
  where
    step : k ≡ suc k - 1
    step = omega arith
