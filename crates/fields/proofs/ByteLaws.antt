-- A number's bytes one by one, as they stand at the head of three bytes; and the key of a relation, up to its last
-- train. Assumes nothing.
use Prim.Native.Nat.{ℕ, ◌+◌, ◌≤◌, ◌<◌, ◌/◌}
use mathlib.Core.Path.{◌≡◌, refl, sym, ◌∙◌, ap}
use mathlib.Core.List.{List, [], ◌∷◌, ◌++◌}
use native.Mathlib.Omega.{arith}
use lib.Dec.{ltb}
use lib.ListN.{length, get_or, drop}
use borrow.Author.Tests.{ltb-true, ltb-false}
use Rattle.base.proofs.Tests.{by_value}
use Rattle.numbers.specs.Numbers.{write_number, width, with_number}
use Rattle.timetable.specs.Outputs.{put}
use Rattle.numbers.proofs.GroupLaws.{written, width_one, width_two, width_three}

-- lists of one, two and three bytes at the head of others
one_byte : (l rest : List ℕ) → length l ≡ 1 → l ≡ get_or (l ++ rest) 0 0 ∷ []
one_byte [] rest h = absurd (omega arith)
one_byte (a ∷ []) rest h = refl
one_byte (a ∷ b ∷ l) rest h = absurd (omega arith)

two_bytes : (l rest : List ℕ) → length l ≡ 2 → l ≡ get_or (l ++ rest) 0 0 ∷ get_or (l ++ rest) 1 0 ∷ []
two_bytes [] rest h = absurd (omega arith)
two_bytes (a ∷ []) rest h = absurd (omega arith)
two_bytes (a ∷ b ∷ []) rest h = refl
two_bytes (a ∷ b ∷ c ∷ l) rest h = absurd (omega arith)

three_bytes : (l rest : List ℕ) → length l ≡ 3 → l ≡ get_or (l ++ rest) 0 0 ∷ get_or (l ++ rest) 1 0 ∷ get_or (l ++ rest) 2 0 ∷ []
three_bytes [] rest h = absurd (omega arith)
three_bytes (a ∷ []) rest h = absurd (omega arith)
three_bytes (a ∷ b ∷ []) rest h = absurd (omega arith)
three_bytes (a ∷ b ∷ c ∷ []) rest h = refl
three_bytes (a ∷ b ∷ c ∷ d ∷ l) rest h = absurd (omega arith)

-- the number x written at the head of three bytes, which are then b
module _ (x : ℕ) (b₀ b : List ℕ) (small : x < 65536) (room : length b₀ ≡ 3) (e : b ≡ with_number x b₀) where
  width_bounds : (1 ≤ width x) × (width x ≤ 3)
  width_bounds = by_value (ltb x 128)
      (λ p. let w = width_one x (ltb-true x 128 p) in (omega (arith, w), omega (arith, w)))
      (λ p. by_value (ltb (x / 128) 128)
      (λ q. let w = width_two x (ltb-false x 128 p) (ltb-true (x / 128) 128 q) in (omega (arith, w), omega (arith, w)))
      (λ q. let w = width_three x (ltb-false x 128 p) (ltb-false (x / 128) 128 q) small in (omega (arith, w), omega (arith, w))))

  bytes_are : b ≡ write_number x ++ drop (width x) b₀
  bytes_are = e ∙ written x b₀ (omega (arith, room, width_bounds.1))

  module _ (at : ℕ) (out : List ℕ) where
    pub put_one : width x ≡ 1 → (at + 1 ≡ at + length (write_number x)) × (put at (get_or b 0 0 ∷ []) out ≡ put at (write_number x) out)
    unfolding width
    put_one w =
        (omega (arith, w), rw bytes_are (ap (λ (l : List ℕ). put at l out) (sym (one_byte (write_number x) (drop (width x) b₀) w))))

    pub put_both : width x ≡ 2
        → (at + 2 ≡ at + length (write_number x)) × (put (at + 1) (get_or b 1 0 ∷ []) (put at (get_or b 0 0 ∷ []) out) ≡ put at (write_number x) out)
    unfolding width put
    put_both w =
        (omega (arith, w), rw bytes_are (ap (λ (l : List ℕ). put at l out) (sym (two_bytes (write_number x) (drop (width x) b₀) w))))

    pub put_three : ¬ (width x ≡ 1) → ¬ (width x ≡ 2)
        → (at + 3 ≡ at + length (write_number x))
        × (put (at + 2) (get_or b 2 0 ∷ []) (put (at + 1) (get_or b 1 0 ∷ []) (put at (get_or b 0 0 ∷ []) out)) ≡ put at (write_number x) out)
    unfolding width put
    put_three p q =
        let w : width x ≡ 3 = omega (arith, p, q, width_bounds.0, width_bounds.1) in
        let two : at + 2 ≡ at + 1 + 1 = omega arith in
        (omega (arith, w), rw (bytes_are, two) (ap (λ (l : List ℕ). put at l out) (sym (three_bytes (write_number x) (drop (width x) b₀) w))))
