-- Lateness as a signed machine number: an expected arrival less a standing one fits, and an arrival past what a Minute
-- holds is counted on from the last one. Assumes nothing.
use Prim.Native.Nat.{ℕ, suc, ◌-◌, ◌<◌, ◌≤◌}
use mathlib.Core.Path.{◌≡◌, refl, ◌∙◌, ap}
use mathlib.Core.Bool.{Bool, true, false, cond}
use native.Mathlib.Omega.{arith}
use lib.Dec.{ltb}
use lib.IntN.{pos, negsuc, sub_ℕ, ◌+ℤ◌}
use lib.Signed.{mag}
use mir.Syntax.{w32}
use mir.Val.{to_z, of_z, SFits}
use mir.Facts.{to_z_pos, to_z-of_z}
use borrow.Author.Tests.{ltb-true}

-- of a number that is not below the other
reached : (x y : ℕ) → y ≤ x → sub_ℕ x y ≡ pos (x - y)
reached x y h = go (ltb x y) refl
  where
    go : (t : Bool) → ltb x y ≡ t → cond t (negsuc (y - suc x)) (pos (x - y)) ≡ pos (x - y)
    go true e = absurd (omega (arith, h, ltb-true x y e))
    go false e = refl

module _ (a b : ℕ) (p : a ≤ 70000) (q : b < 65536) where
  mag_late : mag (sub_ℕ a b) ≤ 70000
  mag_late = go (ltb a b) refl
    where
      go : (t : Bool) → ltb a b ≡ t → mag (cond t (negsuc (b - suc a)) (pos (a - b))) ≤ 70000
      go true e = omega arith
      go false e = omega arith

  late_small : SFits w32 (sub_ℕ a b)
  late_small = record { sfits = omega (arith, mag_late) }

  -- kept in a row it stays what it is
  pub late_kept : to_z w32 (of_z w32 (sub_ℕ a b)) ≡ sub_ℕ a b
  late_kept = to_z-of_z {w = w32} late_small

  -- the gap from the last minute that can be held, and what lies past it
  module _ (past : 65535 < a) where
    late_on : to_z w32 (of_z w32 (sub_ℕ 65535 b)) +ℤ to_z w32 (a - 65535) ≡ sub_ℕ a b
    late_on = rw (reached 65535 b (omega arith), reached a b (omega arith), to_z_pos w32 {n = a - 65535} (omega arith), to_z-of_z {w = w32} held) (ap pos (omega arith))
      where
        held : SFits w32 (pos (65535 - b))
        held = record { sfits = omega arith }

    pub late_on_fits : SFits w32 (to_z w32 (of_z w32 (sub_ℕ 65535 b)) +ℤ to_z w32 (a - 65535))
    late_on_fits = rw late_on late_small

    pub late_on_back : to_z w32 (of_z w32 (to_z w32 (of_z w32 (sub_ℕ 65535 b)) +ℤ to_z w32 (a - 65535))) ≡ sub_ℕ a b
    late_on_back = to_z-of_z {w = w32} late_on_fits ∙ late_on
