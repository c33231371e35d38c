-- Lists of findings as numbers. Four numbers a finding are read back; so all lists formed from the sheets of a divided
-- timetable are those that the theory forms from its parts, as each of them is (findings DividedLists). Assumes
-- nothing.
use Prim.Native.Nat.{ℕ}
use mathlib.Core.Path.{◌≡◌, refl, sym, ◌∙◌, ap, ap₂}
use mathlib.Core.Bool.{Bool, ◌&&◌}
use mathlib.Core.List.{List, [], ◌∷◌, ◌++◌, flat_map, append_assoc}
use lib.Dec.{T}
use Rattle.base.specs.Lists.{every, pairs}
use Rattle.base.proofs.Tests.{and_l, and_r, every_head, every_tail}
use Rattle.network.specs.Networks.{area_of}
use Rattle.timetable.specs.Machine.{Timetable}
use Rattle.timetable.specs.Groups.{six, Divided, divide}
use Rattle.timetable.specs.Findings.{numbers, numbers_of, own_list, pair_list, findings_in}
use Rattle.theory.specs.Statements as theory
use Rattle.sheet.specs.Sheets.{decode_sheet, sheet_at}
use Rattle.sheet.proofs.SheetLaws.{area_number, all_areas}
use Rattle.findings.specs.Lists.{area_list, two_list}
use Rattle.findings.proofs.DividedLists.{area_same, pair_same}
use Rattle.demands.specs.Types.{Network, Finding}
use Rattle.recheck.proofs.FourLaws.{fours_numbers}
use Rattle.demands.specs.Demand.{area, area_lists, pair_lists, all_lists}

-- numbers

numbers_join : (xs ys : List Finding) → numbers_of (xs ++ ys) ≡ numbers_of xs ++ numbers_of ys
unfolding numbers_of flat_map
numbers_join [] ys = refl
numbers_join (x ∷ xs) ys = ap (λ (l : List ℕ). numbers x ++ l) (numbers_join xs ys) ∙ sym (append_assoc (numbers x) (numbers_of xs) (numbers_of ys))

-- rows of lists that are each the numbers of findings are the numbers of the rows of findings
numbers_flat : {X : Type 0} (ok : X → Bool) (f : X → List ℕ) (g : X → List Finding) → ((x : X) → T (ok x) → f x ≡ numbers_of (g x))
    → (xs : List X) → T (every ok xs) → flat_map f xs ≡ numbers_of (flat_map g xs)
unfolding flat_map every numbers_of
numbers_flat ok f g h [] t = refl
numbers_flat ok f g h (x ∷ xs) t =
    ap₂ (λ (a b : List ℕ). a ++ b) (h x (every_head ok x xs t)) (numbers_flat ok f g h xs (every_tail ok x xs t)) ∙ sym (numbers_join (g x) (flat_map g xs))

-- the sheets of a division hold the parts of a divided timetable
module _ (n : Network) (division : List ℕ) (m : Timetable) (reads : (a : ℕ) → T (area_number a) → decode_sheet (sheet_at division a) ≡ divide (area_of n) m a) where
  abbrev parts : Divided
  parts = divide (area_of n) m

  abbrev two : ℕ × ℕ → Bool
  two ab = area_number ab.0 && area_number ab.1

  all_pairs : T (every two (pairs six))
  unfolding every pairs
  all_pairs = tt

  pub all_same : all_lists n division ≡ theory.all_lists n (area_of n) six parts
  unfolding all_lists area_lists pair_lists theory.all_lists
  all_same =
      ap findings_in (ap₂ (λ (a b : List ℕ). a ++ b)
      (numbers_flat area_number (λ a. area_list n (sheet_at division a) (area a)) (own_list n (area_of n) parts)
      (λ a t. area_same n division m reads (area a) t) six all_areas)
      (numbers_flat two (λ ab. two_list n (sheet_at division ab.0) (sheet_at division ab.1) (area ab.0) (area ab.1))
      (pair_list n (area_of n) parts)
      (λ ab t. pair_same n division m reads (area ab.0) (area ab.1) (and_l (area_number ab.0) (area_number ab.1) t) (and_r (area_number ab.0) (area_number ab.1) t))
      (pairs six) all_pairs)
      ∙ sym (numbers_join (flat_map (own_list n (area_of n) parts) six) (flat_map (pair_list n (area_of n) parts) (pairs six))))
      ∙ fours_numbers (flat_map (own_list n (area_of n) parts) six ++ flat_map (pair_list n (area_of n) parts) (pairs six))
