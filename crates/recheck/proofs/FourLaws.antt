-- Findings as four numbers each: a list from a place on begins with the four there, where so many are left; whole findings_in
-- and their numbers give each other back; and what stays of a list, by its next four. Assumes nothing.
use Prim.Native.Nat.{ℕ, ◌+◌, ◌-◌, ◌*◌, ◌%◌, ◌<◌, ◌≤◌}
use mathlib.Core.Path.{◌≡◌, refl, ◌∙◌, ap}
use mathlib.Core.Bool.{true, false}
use mathlib.Core.List.{List, [], ◌∷◌, ◌++◌, flat_map}
use native.Mathlib.Omega.{arith}
use native.Mathlib.Nat.{add-sub_cancel_left}
use lib.ListN.{length, take, drop, get_or, length-drop}
use Rattle.base.specs.Lists.{keep}
use Rattle.base.proofs.Lengths.{drop_next}
use Rattle.timetable.specs.Findings.{finding, numbers_of, findings_in}
use Rattle.scope.specs.Redone.{is_redone}
use Rattle.recheck.specs.Types.{Finding, Marks}
use Rattle.recheck.specs.between.Kept.{four_at, kept, kept_numbers}

-- the four numbers at a place, as a finding
abbrev pub finding_at : ℕ → List ℕ → Finding
finding_at i xs = finding (record { 0 = get_or xs i 0 }) (get_or xs (i + 1) 0) (get_or xs (i + 2) 0) (get_or xs (i + 3) 0)

pub four_length : (i : ℕ) (xs : List ℕ) → length (four_at i xs) ≡ 4
unfolding four_at
four_length i xs = refl

-- four are left

module _ (i : ℕ) (xs : List ℕ) (h : i + 4 ≤ length xs) where
  next : (j k : ℕ) → j + 1 ≡ k → j < length xs → drop j xs ≡ get_or xs j 0 ∷ drop k xs
  next j k e l = drop_next xs j 0 l ∙ rw e

  pub drop_four : drop i xs ≡ four_at i xs ++ drop (i + 4) xs
  unfolding four_at
  drop_four =
      next i (i + 1) refl (omega arith)
      ∙ ap (λ (l : List ℕ). get_or xs i 0 ∷ l) (next (i + 1) (i + 2) (omega arith) (omega arith)
      ∙ ap (λ (l : List ℕ). get_or xs (i + 1) 0 ∷ l) (next (i + 2) (i + 3) (omega arith) (omega arith)
      ∙ ap (λ (l : List ℕ). get_or xs (i + 2) 0 ∷ l) (next (i + 3) (i + 4) (omega arith) (omega arith))))

  pub fours_next : findings_in (drop i xs) ≡ finding_at i xs ∷ findings_in (drop (i + 4) xs)
  unfolding findings_in four_at
  fours_next = ap findings_in drop_four

  pub four_cut : take 4 (drop i xs) ≡ four_at i xs
  unfolding four_at
  four_cut = ap (take 4) drop_four

  -- as the code cuts them
  pub four_part : take (i + 4 - i) (drop i xs) ≡ four_at i xs
  four_part = rw (add-sub_cancel_left i 4) four_cut

-- fewer are left

fours_short : (xs : List ℕ) → length xs < 4 → findings_in xs ≡ []
unfolding findings_in
fours_short [] h = refl
fours_short (s ∷ []) h = refl
fours_short (s ∷ rule ∷ []) h = refl
fours_short (s ∷ rule ∷ a ∷ []) h = refl
fours_short (s ∷ rule ∷ a ∷ b ∷ xs) h = absurd (omega arith)

pub fours_over : (i : ℕ) (xs : List ℕ) → length xs < i + 4 → findings_in (drop i xs) ≡ []
fours_over i xs h = fours_short (drop i xs) (simp length-drop (omega arith))

-- there and back

pub fours_numbers : (fs : List Finding) → findings_in (numbers_of fs) ≡ fs
unfolding findings_in numbers_of flat_map finding
fours_numbers [] = refl
fours_numbers (f ∷ fs) = ap (λ (gs : List Finding). f ∷ gs) (fours_numbers fs)

pub numbers_fours : (xs : List ℕ) → length xs % 4 ≡ 0 → numbers_of (findings_in xs) ≡ xs
unfolding findings_in numbers_of flat_map finding
numbers_fours [] e = refl
numbers_fours (s ∷ []) e = absurd (omega arith)
numbers_fours (s ∷ rule ∷ []) e = absurd (omega arith)
numbers_fours (s ∷ rule ∷ a ∷ []) e = absurd (omega arith)
numbers_fours (s ∷ rule ∷ a ∷ b ∷ xs) e = ap (λ (l : List ℕ). s ∷ rule ∷ a ∷ b ∷ l) (numbers_fours xs (omega arith))

pub numbers_length : (fs : List Finding) → length (numbers_of fs) ≡ 4 * length fs
unfolding numbers_of flat_map
numbers_length [] = refl
numbers_length (f ∷ fs) = omega (arith, numbers_length fs)

-- what stays

module _ (marks : Marks) (i : ℕ) (xs : List ℕ) where
  pub kept_over : length xs < i + 4 → kept marks (findings_in (drop i xs)) ≡ []
  unfolding kept keep
  kept_over h = rw (fours_over i xs h)

  pub none_over : length xs < i + 4 → length (kept_numbers marks (drop i xs)) ≡ 0
  unfolding kept_numbers numbers_of flat_map
  none_over h = ap (λ (fs : List Finding). length (numbers_of fs)) (kept_over h)

  module _ (h : i + 4 ≤ length xs) where
    pub kept_skip : is_redone marks (get_or xs i 0) (get_or xs (i + 1) 0) ≡ true → kept marks (findings_in (drop i xs)) ≡ kept marks (findings_in (drop (i + 4) xs))
    unfolding kept keep finding
    kept_skip e = ap (kept marks) (fours_next i xs h) ∙ rw e

    pub kept_stay : is_redone marks (get_or xs i 0) (get_or xs (i + 1) 0) ≡ false → kept marks (findings_in (drop i xs)) ≡ finding_at i xs ∷ kept marks (findings_in (drop (i + 4) xs))
    unfolding kept keep finding
    kept_stay e = ap (kept marks) (fours_next i xs h) ∙ rw e

    pub length_skip : is_redone marks (get_or xs i 0) (get_or xs (i + 1) 0) ≡ true
        → length (kept_numbers marks (drop i xs)) ≡ length (kept_numbers marks (drop (i + 4) xs))
    unfolding kept_numbers
    length_skip e = ap (λ (fs : List Finding). length (numbers_of fs)) (kept_skip e)

    pub length_stay : is_redone marks (get_or xs i 0) (get_or xs (i + 1) 0) ≡ false
        → length (kept_numbers marks (drop i xs)) ≡ 4 + length (kept_numbers marks (drop (i + 4) xs))
    unfolding kept_numbers numbers_of flat_map
    length_stay e = ap (λ (fs : List Finding). length (numbers_of fs)) (kept_stay e) ∙ omega arith
