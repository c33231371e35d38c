-- The rows of a projection, from their numbers, four by four: the four at a place, and the rest behind them. Assumes
-- nothing.
use Prim.Native.Nat.{ℕ, ◌+◌, ◌*◌, ◌≤◌, ◌<◌}
use mathlib.Core.Path.{◌≡◌, ◌∙◌, ap}
use mathlib.Core.List.{List, [], ◌++◌, flat_map}
use native.Mathlib.Omega.{arith}
use lib.IntN.{ℤ, pos}
use lib.ListN.{length, get_or, take, drop, length-take, length-append, drop_of_length-le}
use lib.Seq.{get_or-take}
use Rattle.timetable.specs.Outputs.{Puts, put}
use Rattle.timetable.proofs.BuffersFilled.{put_append}
use Rattle.text.specs.between.Rows.{signed_word, kept, row_at, row_line, rows_text}
use Rattle.text.proofs.FourByFour.{four_next}
use Rattle.text.proofs.PutParts.{puts_two, puts_last}

-- four numbers, one behind the other
module _ (zs : List ℤ) (i : ℕ) where
  abbrev word_at : ℕ → List ℕ
  word_at j = signed_word (kept (get_or zs j (pos 0)))

  pub four_put : (at : ℕ) (b₀ : List ℕ) (p₁ p₂ p₃ p₄ : ℕ) (b₁ b₂ b₃ b₄ : List ℕ)
      → Puts at (word_at i) b₀ p₁ b₁ 12 → Puts p₁ (word_at (i + 1)) b₁ p₂ b₂ 12 → Puts p₂ (word_at (i + 2)) b₂ p₃ b₃ 12 → Puts p₃ (word_at (i + 3)) b₃ p₄ b₄ 12
      → Puts at (flat_map signed_word (row_at zs i)) b₀ p₄ b₄ 48
  unfolding row_at flat_map
  four_put at b₀ p₁ p₂ p₃ p₄ b₁ b₂ b₃ b₄ u v w x =
      puts_two at p₁ p₄ (word_at i) (word_at (i + 1) ++ (word_at (i + 2) ++ (word_at (i + 3) ++ []))) b₀ b₁ b₄ 12 36 u
      (puts_two p₁ p₂ p₄ (word_at (i + 1)) (word_at (i + 2) ++ (word_at (i + 3) ++ [])) b₁ b₂ b₄ 12 24 v
      (puts_two p₂ p₃ p₄ (word_at (i + 2)) (word_at (i + 3) ++ []) b₂ b₃ b₄ 12 12 w (puts_last p₃ p₄ (word_at (i + 3)) b₃ b₄ 12 x)))

module _ (s t : ℕ) (zs : List ℤ) (k : ℕ) (fits : 4 * k ≤ length zs) (i : ℕ) where
  abbrev left : ℕ → List ℕ
  left j = rows_text s t (drop (4 * j) (take (4 * k) zs))

  abbrev line_at : List ℕ
  line_at = row_line s t (row_at zs (4 * i))

  line_next : i < k → left i ≡ line_at ++ left (i + 1)
  unfolding rows_text row_at
  line_next h =
      let l : List ℤ = take (4 * k) zs in
      let step : 4 * i + 4 ≡ 4 * (i + 1) = omega arith in
      ap (rows_text s t) (four_next l (4 * i) (pos 0) (simp length-take (omega (arith, h))))
      ∙ rw (get_or-take (4 * k) zs (4 * i) (pos 0) (omega (arith, h)), get_or-take (4 * k) zs (4 * i + 1) (pos 0) (omega (arith, h)), get_or-take (4 * k) zs (4 * i + 2) (pos 0) (omega (arith, h)), get_or-take (4 * k) zs (4 * i + 3) (pos 0) (omega (arith, h)), step)

  pub rows_on : (at : ℕ) (b : List ℕ) → i < k → put at (left i) b ≡ put (at + length line_at) (left (i + 1)) (put at line_at b)
  rows_on at b h = ap (λ (l : List ℕ). put at l b) (line_next h) ∙ put_append at line_at (left (i + 1)) b

  pub rows_length : i < k → length (left i) ≡ length line_at + length (left (i + 1))
  rows_length h = ap length (line_next h) ∙ length-append line_at (left (i + 1))

  pub rows_over : k ≤ i → left i ≡ []
  unfolding rows_text
  rows_over h = ap (rows_text s t) (drop_of_length-le (take (4 * k) zs) {i = 4 * i} (simp length-take (omega (arith, h))))
