-- Lists formed from the sheets of a division. The sheets of a good sheet's division are not refused, and the lists
-- formed from them are those that the theory forms from the parts of its timetable, as a list sees only the parts of
-- its own areas. Assumes nothing.
use Prim.Native.Nat.{ℕ}
use mathlib.Core.Path.{◌≡◌, sym, ◌∙◌, ap, fun_ext}
use mathlib.Core.Bool.{Bool, true, not, ◌&&◌, ◌||◌}
use mathlib.Core.List.{List}
use lib.Dec.{T, ltb, eqb}
use lib.ListN.{length}
use borrow.Author.Tests.{eqb-true, eq-eqb}
use Rattle.base.specs.Choice.{◌if◌else◌}
use Rattle.std.specs.Prelude.{if◌then◌else◌}
use Rattle.base.proofs.Tests.{by_value, T_true, and_l, and_r}
use Rattle.railway.specs.Ranges.{area_ok}
use Rattle.network.specs.Networks.{network_refusal, listed, area_of}
use Rattle.timetable.specs.Tables.{empty}
use Rattle.timetable.specs.Machine.{Timetable}
use Rattle.timetable.specs.Groups.{Divided, divide, merge, gather}
use Rattle.timetable.specs.Findings.{numbers_of, group_findings, pair_findings, own_list, pair_list}
use Rattle.timetable.specs.Refusals.{call_refusal}
use Rattle.timetable.proofs.RefusalLaws.{call_late}
use Rattle.sheet.specs.Sheets.{decode_sheet, good_sheet, sheet_at, divided}
use Rattle.sheet.proofs.SheetLaws.{area_number, sheet_size, division_sheet, divided_size, divided_good}
use Rattle.findings.specs.Types.{Station, Area, Network}
use Rattle.findings.specs.Lists.{area_list, two_parts, two_list, list_early, good_part, two_areas, area_list_refusal, two_list_refusal}
use Rattle.findings.proofs.ListCalls.{early_network_alone}

-- buffers that fit, nothing out of range and good sheets: the list is formed
pub list_formed : (fits : Bool) (early : ℕ) (good : Bool) → fits ≡ true → early ≡ 0 → good ≡ true → call_refusal fits early good 0 ≡ 0
list_formed fits early good p q r = call_late fits early good 0 p q r

-- two areas are each an area
pub first_area : (a b : Area) → T (two_areas a b) → T (area_ok a)
unfolding two_areas
first_area a b t = and_l (area_ok a) (area_ok b && not (eqb a.0 b.0)) t

pub second_area : (a b : Area) → T (two_areas a b) → T (area_ok b)
unfolding two_areas
second_area a b t = and_l (area_ok b) (not (eqb a.0 b.0)) (and_r (area_ok a) (area_ok b && not (eqb a.0 b.0)) t)

-- the sheets of a good sheet's division
module _ (n : Network) (good : network_refusal n ≡ 0) (sheet : List ℕ) (size : length sheet ≡ 8192) (fine : T (good_sheet n (listed n) sheet)) where
  part_size : (a : Area) → T (area_ok a) → eqb (length (sheet_at (divided n sheet) a.0)) 8192 ≡ true
  part_size a t = eq-eqb (length (sheet_at (divided n sheet) a.0)) 8192 (sheet_size (divided n sheet) a.0 (divided_size n sheet size) t)

  part_good : (a : Area) → T (area_ok a) → good_part n a (sheet_at (divided n sheet) a.0) ≡ true
  unfolding good_part
  part_good a t =
      T_true (good_part n a (sheet_at (divided n sheet) a.0)) (division_sheet n good (divided n sheet) (divided_good n good sheet size fine) a.0 t)

  pub area_listed : (a : Area) → T (area_ok a) → area_list_refusal n (sheet_at (divided n sheet) a.0) a ≡ 0
  unfolding area_list_refusal
  area_listed a t = list_formed
      (eqb (length (sheet_at (divided n sheet) a.0)) 8192) (list_early n (area_ok a)) (good_part n a (sheet_at (divided n sheet) a.0))
      (part_size a t) (early_network_alone n (area_ok a) (T_true (area_ok a) t) ∙ good) (part_good a t)

  pub pair_listed : (a b : Area) → T (two_areas a b) → two_list_refusal n (sheet_at (divided n sheet) a.0) (sheet_at (divided n sheet) b.0) a b ≡ 0
  unfolding two_list_refusal
  pair_listed a b t =
      let p = first_area a b t in
      let q = second_area a b t in
      list_formed
      (eqb (length (sheet_at (divided n sheet) a.0)) 8192 && eqb (length (sheet_at (divided n sheet) b.0)) 8192)
      (list_early n (two_areas a b))
      (good_part n a (sheet_at (divided n sheet) a.0) && good_part n b (sheet_at (divided n sheet) b.0))
      (rw (part_size a p, part_size b q)) (early_network_alone n (two_areas a b) (T_true (two_areas a b) t) ∙ good) (rw (part_good a p, part_good b q))

-- gathered groups depend on their own parts alone
gather_own : (γ : Station → ℕ) (p : ℕ → Bool) (d d' : Divided) → ((g : ℕ) → p g ≡ true → d g ≡ d' g) → gather γ p d ≡ gather γ p d'
unfolding gather merge
gather_own γ p d d' same = fun_ext λ k. by_value (p (γ k))
    (λ e. ap (λ (m : Timetable). if p (γ k) then (if ltb 0 (γ k) then m k else empty) else empty) (same (γ k) e))
    (λ e. rw e)

-- the sheets of a division hold the parts of a divided timetable
module _ (n : Network) (division : List ℕ) (m : Timetable) (reads : (a : ℕ) → T (area_number a) → decode_sheet (sheet_at division a) ≡ divide (area_of n) m a) where
  abbrev parts : Divided
  parts = divide (area_of n) m

  pub area_same : (a : Area) → T (area_number a.0) → area_list n (sheet_at division a.0) a ≡ numbers_of (own_list n (area_of n) parts a.0)
  unfolding area_list own_list
  area_same a t = ap (λ (x : Timetable). numbers_of (group_findings n (area_of n) x a.0)) (reads a.0 t)

  pub pair_same : (a b : Area) → T (area_number a.0) → T (area_number b.0)
      → two_list n (sheet_at division a.0) (sheet_at division b.0) a b ≡ numbers_of (pair_list n (area_of n) parts (a.0, b.0))
  unfolding two_list pair_list two_parts
  pair_same a b t u =
      ap (λ (x : Timetable). numbers_of (pair_findings n (area_of n) x a.0 b.0))
      (gather_own (area_of n) (λ x. eqb x a.0 || eqb x b.0) given parts same)
    where
      given : Divided
      given = λ g. if eqb g a.0 then decode_sheet (sheet_at division a.0) else if eqb g b.0 then decode_sheet (sheet_at division b.0) else λ k. empty

      same : (g : ℕ) → (eqb g a.0 || eqb g b.0) ≡ true → given g ≡ parts g
      same g e = by_value (eqb g a.0)
          (λ p. rw p (reads a.0 t) ∙ ap parts (sym (eqb-true g a.0 p)))
          (λ p. let q : eqb g b.0 ≡ true = (rw p at e) in
          rw (p, q) (reads b.0 u) ∙ ap parts (sym (eqb-true g b.0 q)))
