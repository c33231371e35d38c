-- A row's four numbers, written in turn. Assumes nothing.
use Prim.Native.Nat.{ℕ, ◌+◌}
use mathlib.Core.Path.{◌≡◌, ◌∙◌}
use mathlib.Core.List.{List}
use native.Mathlib.Omega.{arith}
use lib.IntN.{ℤ, pos}
use lib.ListN.{set}
use Rattle.timetable.specs.Outputs.{put}
use Rattle.projection.specs.Types.{Row}
use Rattle.projection.specs.Numbers.{row_numbers}

module _ (r : Row) (at : ℕ) (b b₁ b₂ b₃ b₄ : List ℤ) (s a d l : ℤ) where
  pub put_four : s ≡ pos r.station.0 → a ≡ pos r.arrival → d ≡ pos r.departure → l ≡ r.lateness
      → b₁ ≡ set b at s → b₂ ≡ set b₁ (at + 1) a → b₃ ≡ set b₂ (at + 2) d → b₄ ≡ set b₃ (at + 3) l → b₄ ≡ put at (row_numbers r) b
  unfolding put row_numbers
  put_four x y z w e₁ e₂ e₃ e₄ =
      let two : at + 1 + 1 ≡ at + 2 = omega arith in
      let three : at + 2 + 1 ≡ at + 3 = omega arith in
      e₄ ∙ rw (two, three, e₃, e₂, e₁, x, y, z, w)
