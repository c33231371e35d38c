-- "A pair's (unordered)": the call on two areas gives the same list, and the same refusal, with the two exchanged.
-- Assumes nothing.
use Prim.Native.Nat.{ℕ}
use mathlib.Core.Path.{◌≡◌, refl, sym, ap, ap₂, ◌∙◌, fun_ext}
use mathlib.Core.Bool.{Bool, true, false, not, ◌&&◌, ◌||◌}
use mathlib.Core.List.{List}
use lib.Dec.{eqb, ltb}
use lib.ListN.{length}
use borrow.Author.Tests.{eqb-true}
use Rattle.std.specs.Prelude.{if◌then◌else◌}
use Rattle.base.proofs.Tests.{eqb_turned, and_turned}
use Rattle.railway.specs.Ranges.{area_ok}
use Rattle.network.specs.Networks.{area_of}
use Rattle.timetable.specs.Tables.{empty}
use Rattle.timetable.specs.Machine.{Timetable}
use Rattle.timetable.specs.Refusals.{call_refusal}
use Rattle.timetable.specs.Groups.{Grouping, in_group, merge, gather}
use Rattle.timetable.specs.Findings.{numbers_of, Spanning, picked, spanning, between, pair_findings, pair_list}
use Rattle.sheet.specs.Sheets.{decode_sheet}
use Rattle.findings.specs.Types.{Station, Area, Network}
use Rattle.findings.specs.Lists.{two_parts, two_list, list_early, good_part, two_areas, two_list_refusal}

or_turned : (x y : Bool) → (x || y) ≡ (y || x)
or_turned true true = refl
or_turned true false = refl
or_turned false true = refl
or_turned false false = refl

and_swapped : (x y z : Bool) → (x && (y && z)) ≡ (y && (x && z))
and_swapped true y z = refl
and_swapped false true z = refl
and_swapped false false z = refl

-- the findings of two groups
pub pair_turned : (n : Network) (γ : Grouping) (m : Timetable) (g h : ℕ) → pair_findings n γ m g h ≡ pair_findings n γ m h g
unfolding pair_findings between
pair_turned n γ m g h =
    ap (λ (f : Spanning → Bool). picked f (spanning n m))
    (fun_ext (λ x. or_turned (in_group γ g x.found.station && in_group γ h x.far) (in_group γ h x.found.station && in_group γ g x.far)))

module _ (n : Network) (first second : List ℕ) (a b : Area) where
  -- the parts that are gathered: no station is in both areas
  parts_turned : ¬ (a.0 ≡ b.0)
      → gather (area_of n) (λ x. eqb x a.0 || eqb x b.0) (two_parts first second a b)
      ≡ gather (area_of n) (λ x. eqb x b.0 || eqb x a.0) (two_parts second first b a)
  unfolding gather merge two_parts
  parts_turned differ = fun_ext (λ k. go k (eqb (area_of n k) a.0) (eqb (area_of n k) b.0) (ltb 0 (area_of n k)) refl refl)
    where
      go : (k : Station) (x y z : Bool) → eqb (area_of n k) a.0 ≡ x → eqb (area_of n k) b.0 ≡ y
          → (if x || y then (if z then (if x then decode_sheet first else if y then decode_sheet second else λ j. empty) k else empty) else empty)
          ≡ (if y || x then (if z then (if y then decode_sheet second else if x then decode_sheet first else λ j. empty) k else empty) else empty)
      go k true true z e f = absurd (differ (sym (eqb-true (area_of n k) a.0 e) ∙ eqb-true (area_of n k) b.0 f))
      go k true false z e f = refl
      go k false true z e f = refl
      go k false false z e f = refl

  pub two_list_turned : ¬ (a.0 ≡ b.0) → two_list n first second a b ≡ two_list n second first b a
  unfolding two_list pair_list
  two_list_turned differ =
      ap (λ (m : Timetable). numbers_of (pair_findings n (area_of n) m a.0 b.0)) (parts_turned differ)
      ∙ ap numbers_of (pair_turned n (area_of n) (gather (area_of n) (λ x. eqb x b.0 || eqb x a.0) (two_parts second first b a)) a.0 b.0)

  areas_turned : two_areas a b ≡ two_areas b a
  unfolding two_areas
  areas_turned =
      and_swapped (area_ok a) (area_ok b) (not (eqb a.0 b.0))
      ∙ ap (λ (x : Bool). area_ok b && (area_ok a && not x)) (eqb_turned a.0 b.0)

  pub two_refusal_turned : two_list_refusal n first second a b ≡ two_list_refusal n second first b a
  unfolding two_list_refusal
  two_refusal_turned =
      ap₂ (λ (x y : Bool). call_refusal x (list_early n y) (good_part n a first && good_part n b second) 0)
      (and_turned (eqb (length first) 8192) (eqb (length second) 8192)) areas_turned
      ∙ ap (λ (x : Bool). call_refusal (eqb (length second) 8192 && eqb (length first) 8192) (list_early n (two_areas b a)) x 0)
      (and_turned (good_part n a first) (good_part n b second))
