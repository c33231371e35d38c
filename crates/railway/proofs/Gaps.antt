-- The difference of two small numbers, as a signed machine number: it fits, and it is their difference. Assumes
-- nothing.
use Prim.Native.Nat.{ℕ, zero, suc, ◌+◌, ◌-◌, ◌<◌}
use mathlib.Core.Path.{◌≡◌, refl, ◌∙◌, ap}
use mathlib.Core.Bool.{Bool, true, false, cond}
use native.Mathlib.Omega.{arith}
use lib.Dec.{ltb}
use lib.IntN.{pos, negsuc, sub_ℕ, ◌-ℤ◌}
use lib.Signed.{mag}
use mir.Syntax.{w32}
use mir.Val.{to_z, of_z, SFits}
use mir.Facts.{to_z_pos, to_z-of_z}

pub pos_less : (a b : ℕ) → pos a -ℤ pos b ≡ sub_ℕ a b
pos_less a zero = go (ltb a 0) refl
  where
    go : (t : Bool) → ltb a 0 ≡ t → pos (a + 0) ≡ cond t (negsuc (0 - suc a)) (pos (a - 0))
    go true e = absurd (omega (arith, borrow.Author.Tests.ltb-true a 0 e))
    go false e = ap pos (omega arith)
pos_less a (suc b) = refl

-- the numbers as a machine word of 32 bits reads them
pub read_less : (a b : ℕ) → a < 65536 → b < 65536 → to_z w32 a -ℤ to_z w32 b ≡ sub_ℕ a b
read_less a b p q = rw (to_z_pos w32 {n = a} (omega arith), to_z_pos w32 {n = b} (omega arith)) (pos_less a b)

mag_less : (a b : ℕ) → a < 65536 → b < 65536 → mag (sub_ℕ a b) < 65536
mag_less a b p q = go (ltb a b) refl
  where
    go : (t : Bool) → ltb a b ≡ t → mag (cond t (negsuc (b - suc a)) (pos (a - b))) < 65536
    go true e = omega arith
    go false e = omega arith

pub less_fits : (a b : ℕ) → a < 65536 → b < 65536 → SFits w32 (to_z w32 a -ℤ to_z w32 b)
less_fits a b p q = record { sfits = rw (read_less a b p q) (omega (arith, mag_less a b p q)) }

pub less_back : (a b : ℕ) → a < 65536 → b < 65536 → to_z w32 (of_z w32 (to_z w32 a -ℤ to_z w32 b)) ≡ sub_ℕ a b
less_back a b p q = to_z-of_z {w = w32} (less_fits a b p q) ∙ read_less a b p q
