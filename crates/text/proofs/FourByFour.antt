-- Numbers four by four: the four at a place, and the rest behind them; and the areas that a list is of. Assumes
-- nothing.
use Prim.Native.Nat.{ℕ, ◌+◌, ◌*◌, ◌≤◌, ◌<◌}
use mathlib.Core.Path.{◌≡◌, refl, ◌∙◌, ap}
use mathlib.Core.List.{List, [], ◌∷◌, ◌++◌}
use native.Mathlib.Omega.{arith}
use borrow.Author.Tests.{eq-eqb, ne_eqb}
use lib.ListN.{length, get_or, take, drop, length-take, length-append, drop_of_length-le}
use lib.Seq.{get_or-take}
use Rattle.base.proofs.Lengths.{drop_next}
use Rattle.timetable.specs.Outputs.{put}
use Rattle.timetable.proofs.BuffersFilled.{put_append}
use Rattle.listings.specs.Text.{line}
use Rattle.text.specs.between.Lines.{of_areas, four_at, findings_text}

pub of_none : (a b : ℕ) → a ≡ 0 → of_areas a b ≡ []
unfolding of_areas
of_none a b p = rw (eq-eqb a 0 p) refl

pub of_one : (a b : ℕ) → (a ≡ 0 → ⊥) → b ≡ 0 → of_areas a b ≡ a ∷ []
unfolding of_areas
of_one a b p q = rw (ne_eqb a 0 p, eq-eqb b 0 q) refl

pub of_two : (a b : ℕ) → (a ≡ 0 → ⊥) → (b ≡ 0 → ⊥) → of_areas a b ≡ a ∷ b ∷ []
unfolding of_areas
of_two a b p q = rw (ne_eqb a 0 p, ne_eqb b 0 q) refl

pub four_next : {A : Type 0} (l : List A) (i : ℕ) (d : A) → i + 4 ≤ length l → drop i l ≡ get_or l i d ∷ get_or l (i + 1) d ∷ get_or l (i + 2) d ∷ get_or l (i + 3) d ∷ drop (i + 4) l
four_next l i d h =
    let two : i + 1 + 1 ≡ i + 2 = omega arith in
    let three : i + 2 + 1 ≡ i + 3 = omega arith in
    let four : i + 3 + 1 ≡ i + 4 = omega arith in
    drop_next l i d (omega arith)
    ∙ ap (λ (r : List _). get_or l i d ∷ r) (drop_next l (i + 1) d (omega arith) ∙ ap (λ (r : List _). get_or l (i + 1) d ∷ r) (ap (λ (j : ℕ). drop j l) two
    ∙ drop_next l (i + 2) d (omega arith) ∙ ap (λ (r : List _). get_or l (i + 2) d ∷ r) (ap (λ (j : ℕ). drop j l) three ∙ drop_next l (i + 3) d (omega arith) ∙ ap (λ (j : ℕ). get_or l (i + 3) d ∷ drop j l) four)))

module _ (letter : ℕ) (areas xs : List ℕ) (k : ℕ) (fits : 4 * k ≤ length xs) (i : ℕ) where
  abbrev left : ℕ → List ℕ
  left j = findings_text letter areas (drop (4 * j) (take (4 * k) xs))

  abbrev line_at : List ℕ
  line_at = line letter (areas ++ four_at xs (4 * i))

  line_next : i < k → left i ≡ line_at ++ left (i + 1)
  unfolding findings_text four_at
  line_next h =
      let l : List ℕ = take (4 * k) xs in
      let step : 4 * i + 4 ≡ 4 * (i + 1) = omega arith in
      ap (findings_text letter areas) (four_next l (4 * i) 0 (simp length-take (omega (arith, h))))
      ∙ rw (get_or-take (4 * k) xs (4 * i) 0 (omega (arith, h)), get_or-take (4 * k) xs (4 * i + 1) 0 (omega (arith, h)), get_or-take (4 * k) xs (4 * i + 2) 0 (omega (arith, h)), get_or-take (4 * k) xs (4 * i + 3) 0 (omega (arith, h)), step)

  pub found_on : (at : ℕ) (b : List ℕ) → i < k → put at (left i) b ≡ put (at + length line_at) (left (i + 1)) (put at line_at b)
  found_on at b h = ap (λ (l : List ℕ). put at l b) (line_next h) ∙ put_append at line_at (left (i + 1)) b

  pub found_length : i < k → length (left i) ≡ length line_at + length (left (i + 1))
  found_length h = ap length (line_next h) ∙ length-append line_at (left (i + 1))

  pub found_over : k ≤ i → left i ≡ []
  unfolding findings_text
  found_over h = ap (findings_text letter areas) (drop_of_length-le (take (4 * k) xs) {i = 4 * i} (simp length-take (omega (arith, h))))
