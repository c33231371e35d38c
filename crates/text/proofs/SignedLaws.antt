-- Signed machine numbers as text: one below nought is the sign and its size. Assumes nothing.
use Prim.Native.Nat.{ℕ, suc, ◌+◌}
use mathlib.Core.Path.{◌≡◌, refl, ap}
use mathlib.Core.Bool.{true, false}
use mathlib.Core.List.{◌∷◌}
use native.Mathlib.Omega.{arith}
use lib.IntN.{ℤ, pos, negsuc, nat_abs}
use lib.Signed.{lt_z}
use mir.Syntax.{w32}
use mir.Val.{to_z, of_z, SFits}
use mir.Facts.{to_z-of_z}
use borrow.Author.Tests.{ltb-true}
use Rattle.listings.specs.Text.{digits, decimal}
use Rattle.listings.specs.Inspect.{signed}

pub kept : (z : ℤ) → SFits w32 z → to_z w32 (of_z w32 z) ≡ z
kept z fits = to_z-of_z {w = w32} fits

pub signed_low : (z : ℤ) → lt_z z (pos 0) ≡ true → signed z ≡ 45 ∷ digits 10 (nat_abs z)
unfolding signed decimal
signed_low (pos n) e = absurd (omega (arith, ltb-true n 0 e))
signed_low (negsuc k) e = let more : k + 1 ≡ suc k = omega arith in ap (λ (j : ℕ). 45 ∷ digits 10 j) more

pub signed_high : (z : ℤ) → lt_z z (pos 0) ≡ false → signed z ≡ digits 10 (nat_abs z)
unfolding signed decimal
signed_high (pos n) e = refl
signed_high (negsuc k) e = let s : true ≡ false = e in cc
