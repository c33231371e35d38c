-- Numbers written from a place on, those past the end dropped: two lists one behind the other are written one after the
-- other, and what fits from the start on is written whole, as the calls that fill a buffer promise. Assumes nothing.
use Prim.Native.Nat.{ℕ, suc, ◌+◌, ◌≤◌, ◌<◌}
use mathlib.Core.Path.{◌≡◌, refl, sym, ◌∙◌, ap}
use mathlib.Core.List.{List, [], ◌∷◌, ◌++◌, flat_map}
use native.Mathlib.Omega.{arith}
use lib.ListN.{length, get_or, set, take, drop, length-set, length-take, length-append, drop_of_length-le}
use lib.Seq.{get_or-take}
use Rattle.base.proofs.Lengths.{drop_next}
use Rattle.timetable.specs.Outputs.{put, Puts}

module _ {X : Type 0} where
  pub put_length : (at : ℕ) (xs b : List X) → length (put at xs b) ≡ length b
  unfolding put
  put_length at [] b = refl
  put_length at (x ∷ xs) b = put_length (at + 1) xs (set b at x) ∙ length-set b at x

  pub put_append : (at : ℕ) (xs ys b : List X) → put at (xs ++ ys) b ≡ put (at + length xs) ys (put at xs b)
  unfolding put
  put_append at [] ys b = ap (λ (i : ℕ). put i ys b) (omega arith)
  put_append at (x ∷ xs) ys b = put_append (at + 1) xs ys (set b at x) ∙ ap (λ (i : ℕ). put i ys (put (at + 1) xs (set b at x))) (omega arith)

  put_next : (at : ℕ) (xs : List X) (y : X) (b : List X) → put (suc at) xs (y ∷ b) ≡ y ∷ put at xs b
  unfolding put
  put_next at [] y b = refl
  put_next at (x ∷ xs) y b = ap (λ (i : ℕ). put i xs (y ∷ set b at x)) step ∙ put_next (at + 1) xs y (set b at x)
    where
      step : suc at + 1 ≡ suc (at + 1)
      step = omega arith

  pub put_whole : (xs b : List X) → length xs ≤ length b → put 0 xs b ≡ xs ++ drop (length xs) b
  unfolding put
  put_whole [] b h = refl
  put_whole (x ∷ xs) [] h = absurd (omega arith)
  put_whole (x ∷ xs) (y ∷ b) h =
      ap (λ (i : ℕ). put i xs (x ∷ b)) (omega arith) ∙ put_next 0 xs x b ∙ ap (λ (l : List X). x ∷ l) (put_whole xs b (omega arith))

  -- two parts, the one written behind the other; r and s are the places behind them
  pub put_two : (at r s : ℕ) (xs ys b c d : List X) → r ≡ at + length xs → c ≡ put at xs b → s ≡ r + length ys → d ≡ put r ys c
      → (s ≡ at + length (xs ++ ys)) × (d ≡ put at (xs ++ ys) b)
  put_two at r s xs ys b c d e f g h =
      (omega (arith, e, g, length-append xs ys), h ∙ rw (e, f) (sym (put_append at xs ys b)))

-- what each part of a pass promises: one part behind the other, and the same numbers by another name
pub puts_two : (at r s : ℕ) (xs ys b c d : List ℕ) (j k : ℕ) → Puts at xs b r c j → Puts r ys c s d k → Puts at (xs ++ ys) b s d (j + k)
puts_two at r s xs ys b c d j k x y =
    let w = put_two at r s xs ys b c d x.0 x.1 y.0 y.1 in
    (w.0, w.1, omega (arith, x.2, y.2))

pub puts_as : (at r : ℕ) (xs ys b c : List ℕ) (k : ℕ) → xs ≡ ys → Puts at xs b r c k → Puts at ys b r c k
puts_as at r xs ys b c k e x = rw e at x

-- what the first k elements of a row are written as, from the one at i on
module _ {X Y : Type 0} (f : Y → List X) (ys : List Y) (k : ℕ) (fits : k ≤ length ys) (i : ℕ) (y : Y) where
  abbrev left : ℕ → List X
  left j = flat_map f (drop j (take k ys))

  next_part : i < k → left i ≡ f (get_or ys i y) ++ left (i + 1)
  unfolding flat_map
  next_part h =
      ap (flat_map f) (drop_next (take k ys) i y (simp length-take (omega arith)) ∙ ap (λ (x : Y). x ∷ drop (i + 1) (take k ys)) (get_or-take k ys i y h))

  pub each_on : (at : ℕ) (b : List X) → i < k → put at (left i) b ≡ put (at + length (f (get_or ys i y))) (left (i + 1)) (put at (f (get_or ys i y)) b)
  each_on at b h = ap (λ (l : List X). put at l b) (next_part h) ∙ put_append at (f (get_or ys i y)) (left (i + 1)) b

  pub each_length : i < k → length (left i) ≡ length (f (get_or ys i y)) + length (left (i + 1))
  each_length h = ap length (next_part h) ∙ length-append (f (get_or ys i y)) (left (i + 1))

  pub each_over : k ≤ i → left i ≡ []
  unfolding flat_map
  each_over h = ap (flat_map f) (drop_of_length-le (take k ys) {i = i} (simp length-take (omega arith)))
