-- The parts that `inspect` prints, by their index: F, six of D, fifteen of P, T, J, W. Assumes nothing.
use Prim.Native.Nat.{ℕ, zero, suc, ◌+◌, ◌-◌, ◌≤◌, ◌<◌}
use mathlib.Core.Path.{◌≡◌, refl, ◌∙◌, ap}
use mathlib.Core.Bool.{Bool, true}
use mathlib.Core.List.{List, [], ◌∷◌, ◌++◌, map}
use native.Mathlib.Omega.{arith}
use lib.ListN.{length, get_or, get_or-eq_default, get_or-append}
use lib.Seq.{get_or-append-add}
use borrow.Author.Tests.{le-leb}
use Rattle.base.specs.Lists as Lists
use Rattle.base.specs.Lists.{pairs}
use Rattle.base.proofs.Tests.{T_true, every_at}
use Rattle.railway.specs.Ranges.{area_ok}
use Rattle.timetable.specs.Machine.{Timetable}
use Rattle.timetable.specs.Groups.{six}
use Rattle.findings.specs.Lists.{two_areas}
use Rattle.listings.specs.Inspect.{whole_text, area_text, pair_text, totals_text, journeys_text, written_text, parts_of}
use Rattle.inspect_lines.specs.Types.{Area, Network}

-- the element at an index of a list that is made of another
map_at : {A B : Type 0} (f : A → B) (xs : List A) (i : ℕ) (d : A) (e : B) → i < length xs → get_or (map f xs) i e ≡ f (get_or xs i d)
map_at f [] i d e h = absurd (omega (arith, h))
map_at f (x ∷ xs) zero d e h = refl
map_at f (x ∷ xs) (suc i) d e h = map_at f xs i d e (omega (arith, h))

-- two areas that are a pair are two

abbrev different : ℕ × ℕ → Bool
different p = two_areas (record { 0 = p.0 }) (record { 0 = p.1 })

pub two_at : (i : ℕ) → i < 15 → (a b : Area) → (a.0, b.0) ≡ get_or (pairs six) i (0, 0) → two_areas a b ≡ true
unfolding Lists.opened two_areas
two_at i h a b e = ap different e ∙ T_true (different (get_or (pairs six) i (0, 0))) (every_at different (pairs six) i (0, 0) tt h)

-- the six areas
pub area_at : (k : ℕ) → ¬ (k ≡ 0) → k < 7 → area_ok (record { 0 = k }) ≡ true
area_at k d h = rw (le-leb 1 k (omega (arith, d)), le-leb k 6 (omega (arith, h)))

-- the parts

module _ (n : Network) (m : Timetable) (bytes : List ℕ) where
  abbrev lists : List (List ℕ)
  lists = whole_text n m ∷ map (area_text n m) six

  abbrev later : List (List ℕ)
  later = totals_text n m ∷ journeys_text n m ∷ written_text n m bytes ∷ []

  pub part_whole : (k : ℕ) → k ≡ 0 → get_or (parts_of n m bytes) k [] ≡ whole_text n m
  unfolding parts_of
  part_whole k e = rw e

  pub part_area : (k : ℕ) → ¬ (k ≡ 0) → k < 7 → get_or (parts_of n m bytes) k [] ≡ area_text n m k
  unfolding parts_of
  part_area zero d h = absurd (d refl)
  part_area (suc zero) d h = refl
  part_area (suc (suc zero)) d h = refl
  part_area (suc (suc (suc zero))) d h = refl
  part_area (suc (suc (suc (suc zero)))) d h = refl
  part_area (suc (suc (suc (suc (suc zero))))) d h = refl
  part_area (suc (suc (suc (suc (suc (suc zero)))))) d h = refl
  part_area (suc (suc (suc (suc (suc (suc (suc k))))))) d h = absurd (omega (arith, h))

  -- behind the lists of areas
  behind_areas : (k : ℕ) → 7 ≤ k → get_or (parts_of n m bytes) k [] ≡ get_or (map (pair_text n m) (pairs six) ++ later) (k - 7) []
  unfolding parts_of
  behind_areas k h =
      let e : k ≡ 7 + (k - 7) = omega (arith, h) in
      ap (λ (i : ℕ). get_or (parts_of n m bytes) i []) e ∙ get_or-append-add lists (map (pair_text n m) (pairs six) ++ later) (k - 7) []

  pub part_pair : (k : ℕ) → 7 ≤ k → k < 22 → get_or (parts_of n m bytes) k [] ≡ pair_text n m (get_or (pairs six) (k - 7) (0, 0))
  unfolding Lists.opened
  part_pair k h l =
      behind_areas k h ∙ get_or-append (map (pair_text n m) (pairs six)) later [] (k - 7) (omega (arith, h, l))
      ∙ map_at (pair_text n m) (pairs six) (k - 7) (0, 0) [] (omega (arith, h, l))

  -- behind the lists of pairs
  behind_pairs : (k : ℕ) → 22 ≤ k → get_or (parts_of n m bytes) k [] ≡ get_or later (k - 22) []
  unfolding Lists.opened
  behind_pairs k h =
      let e : k - 7 ≡ 15 + (k - 22) = omega (arith, h) in
      behind_areas k (omega (arith, h)) ∙ ap (λ (i : ℕ). get_or (map (pair_text n m) (pairs six) ++ later) i []) e
      ∙ get_or-append-add (map (pair_text n m) (pairs six)) later (k - 22) []

  pub part_totals : (k : ℕ) → k ≡ 22 → get_or (parts_of n m bytes) k [] ≡ totals_text n m
  part_totals k e = rw e (behind_pairs 22 (omega arith))

  pub part_journeys : (k : ℕ) → k ≡ 23 → get_or (parts_of n m bytes) k [] ≡ journeys_text n m
  part_journeys k e = rw e (behind_pairs 23 (omega arith))

  pub part_written : (k : ℕ) → k ≡ 24 → get_or (parts_of n m bytes) k [] ≡ written_text n m bytes
  part_written k e = rw e (behind_pairs 24 (omega arith))

  pub part_none : (k : ℕ) → 25 ≤ k → get_or (parts_of n m bytes) k [] ≡ []
  part_none k h = behind_pairs k (omega (arith, h)) ∙ get_or-eq_default later [] {n = k - 22} (omega (arith, h))
