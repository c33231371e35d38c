-- The older room's file: forgetting marks and writing as the release before W6 did is writing in the earlier form,
-- which has no marks; entry by entry. And the part of a whole timetable is whole: at the other stations it is bare.
-- Assumes nothing.
use Prim.Native.Nat.{ℕ}
use mathlib.Core.Path.{◌≡◌, refl, sym, ◌∙◌, ap}
use mathlib.Core.Bool.{Bool, true, false, not}
use mathlib.Core.List.{List, [], ◌∷◌, ◌++◌, map, flat_map}
use lib.Dec.{T}
use lib.ListN.{length, length-map}
use Rattle.std.specs.Prelude.{if◌then◌else◌}
use Rattle.base.specs.Lists.{every, each_two, rising}
use Rattle.base.proofs.Tests.{true_T}
use Rattle.network.specs.Networks.{stations_of, listed}
use Rattle.timetable.specs.declared.FileForm.{FileForm}
use Rattle.timetable.specs.FileForms.{mark_numbers, mark_said}
use Rattle.timetable.specs.Tables.{Entry, empty}
use Rattle.timetable.specs.Machine.{Timetable}
use Rattle.timetable.specs.Groups.{Grouping, in_group, divide}
use Rattle.timetable.specs.Good.{table_good, visits_good, relations_good, Whole}
use Rattle.timetable.specs.TimetableFile.{StationVisit, visit_numbers, visit_said, visits_at, relations_at, timetable_numbers_as}
use Rattle.theory.specs.Types.{Station, Network}
use Rattle.theory.specs.Earlier as Earlier
use Rattle.theory.specs.Releases.{early_visit, early_table, UnmarkedThere}

-- lists of entries, station by station

flat_map_lem : {A B C : Type 0} (g : B → C) (h : A → List B) (xs : List A) → flat_map (λ x. map g (h x)) xs ≡ map g (flat_map h xs)
unfolding flat_map
flat_map_lem g h [] = refl
flat_map_lem g h (x ∷ xs) = ap (λ l. map g (h x) ++ l) (flat_map_lem g h xs) ∙ sym (map_both g (h x) (flat_map h xs))
  where
    map_both : {B C : Type 0} (g : B → C) (xs ys : List B) → map g (xs ++ ys) ≡ map g xs ++ map g ys
    map_both g [] ys = refl
    map_both g (x ∷ xs) ys = ap (λ l. g x ∷ l) (map_both g xs ys)

flat_same : {A B : Type 0} (f g : A → List B) → ((x : A) → f x ≡ g x) → (xs : List A) → flat_map f xs ≡ flat_map g xs
unfolding flat_map
flat_same f g h [] = refl
flat_same f g h (x ∷ xs) = rw (h x, flat_same f g h xs)

flat_rows : {A : Type 0} (f : A → List ℕ) (xs : List A) → flat_map (λ ns. ns) (map f xs) ≡ flat_map f xs
unfolding flat_map
flat_rows f [] = refl
flat_rows f (x ∷ xs) = ap (λ (l : List ℕ). f x ++ l) (flat_rows f xs)

-- a station's visits

module _ (n : Network) (m : Timetable) where
  abbrev early : Earlier.Timetable
  early = λ k. early_table (m k)

  at_station : (s : Station) → map (Earlier.visit_numbers s) (early s).visits ≡ map (visit_numbers FileForm.Earlier) (visits_at m s)
  unfolding early_table visits_at Earlier.visit_numbers visit_numbers early_visit mark_numbers
  at_station s = go (m s).visits
    where
      go : (es : List Entry)
          → map (Earlier.visit_numbers s) (map (λ e. record { train = e.train; visit = early_visit e.visit }) es)
          ≡ map (visit_numbers FileForm.Earlier) (map (λ e. record { station = s; train = e.train; visit = e.visit }) es)
      go [] = refl
      go (e ∷ es) = ap (λ (l : List (List ℕ)). visit_numbers FileForm.Earlier (record { station = s; train = e.train; visit = e.visit }) ∷ l) (go es)

  pub early_numbers : Earlier.timetable_numbers n early ≡ timetable_numbers_as FileForm.Earlier n m
  unfolding Earlier.timetable_numbers timetable_numbers_as early_table relations_at
  early_numbers =
      let vs : List StationVisit = flat_map (visits_at m) (stations_of n) in
      let rows : flat_map (λ s. map (Earlier.visit_numbers s) (early s).visits) (stations_of n) ≡ map (visit_numbers FileForm.Earlier) vs =
      flat_same _ _ at_station (stations_of n) ∙ flat_map_lem (visit_numbers FileForm.Earlier) (visits_at m) (stations_of n) in
      let many : length (map (visit_numbers FileForm.Earlier) vs) ≡ length vs = simp length-map in
      rw (rows, many, flat_rows (visit_numbers FileForm.Earlier) vs)

-- a group's part of a whole timetable

module _ (n : Network) (γ : Grouping) (g : ℕ) (m : Timetable) where
  pub part_whole : Whole n m → Whole n (divide γ m g)
  unfolding divide table_good visits_good relations_good empty every each_two rising
  part_whole W = record { good = λ k t. good k t (in_group γ g k); bare = λ k t. bare k t (in_group γ g k) }
    where
      good : (k : Station) → T (listed n k) → (b : Bool) → T (table_good n k (if b then m k else empty))
      good k t true = W.good k t
      good k t false = tt

      bare : (k : Station) → T (not (listed n k)) → (b : Bool) → (if b then m k else empty) ≡ empty
      bare k t true = W.bare k t
      bare k t false = refl

  -- without marks there, the earlier form can say it
  pub part_said : UnmarkedThere n γ g m → (k : Station) → T (every (λ e. visit_said FileForm.Earlier e.visit) (divide γ m g k).visits)
  unfolding divide visit_said mark_said empty every
  part_said U k = go (in_group γ g k) refl
    where
      go : (b : Bool) → in_group γ g k ≡ b → T (every (λ e. not e.visit.marked) (if b then m k else empty).visits)
      go true q = U k (true_T (in_group γ g k) q)
      go false q = tt
