-- Formats over numbers instead of bytes: which numbers in a row give which value. WalkLaws joins it with reading, so
-- that all else is about numbers alone. Assumes nothing.
use Prim.Native.Nat.{ℕ, ◌+◌, ◌≤◌, ◌<◌}
use mathlib.Core.List.{List, [], ◌∷◌}
use mathlib.Core.Path.{◌≡◌}
use Rattle.numbers.specs.Numbers.{width}
use Rattle.timetable.specs.Formats.{Format, done, field, here}

-- a number of lo..hi that three groups can hold
pub record InRange (lo hi n : ℕ) : Type 0 where
  pub low : lo ≤ n
  pub high : n ≤ hi
  pub short : n < 2097152

-- the numbers, the first of them at the place p, are what the format calls for, and its value is b
unfoldable pub walks : {A : Type 0} → Format A → ℕ → List ℕ → A → Type 0
walks (done a) p [] b = a ≡ b
walks (done a) p (n ∷ ns) b = ⊥
walks (field lo hi f) p [] b = ⊥
walks (field lo hi f) p (n ∷ ns) b = InRange lo hi n × walks (f n) (p + width n) ns b
walks (here f) p ns b = walks (f p) p ns b
