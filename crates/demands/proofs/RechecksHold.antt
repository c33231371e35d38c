-- An accepted edit's sheet is good, and holds the central machine's timetable before and after (machine CentralEdits),
-- of which the theory's laws hold; a good division is the divided sheet that it merges to, and its areas' sheets hold
-- the parts of that timetable. Lists are read back from their numbers (recheck FourLaws). Assumes nothing.
use Prim.Native.Nat.{ℕ, ◌%◌}
use mathlib.Core.Path.{◌≡◌, refl, sym, ◌∙◌, ap}
use mathlib.Core.Bool.{true}
use mathlib.Core.List.{List}
use native.Mathlib.Omega.{arith}
use lib.Dec.{T, eqb}
use lib.ListN.{length}
use borrow.Author.Tests.{eqb-true, eqb-false, eq-eqb}
use Rattle.base.specs.Lists.{each_two}
use Rattle.base.proofs.Tests.{by_value, T_true, true_T, and_r, both, held}
use Rattle.railway.specs.Ranges.{area_ok}
use Rattle.network.specs.Networks.{network_refusal, listed, area_of}
use Rattle.timetable.specs.Groups.{six, divide}
use Rattle.timetable.specs.Good.{Whole}
use Rattle.timetable.specs.Findings.{findings, group_findings, own_list, numbers_of, findings_in}
use Rattle.timetable.specs.Recheck.{before, updated, list_rises, updated_numbers}
use Rattle.timetable.specs.Refusals.{early}
use Rattle.timetable.proofs.RefusalLaws.{early_passed, call_late, call_passed}
use Rattle.theory.specs.Rechecks as theory
use Rattle.theory.proofs.Ordered.{areas_group}
use Rattle.theory.proofs.Rising.{findings_rise}
use Rattle.theory.proofs.Rechecked.{recheck_is_new}
use Rattle.theory.proofs.ListsTogether.{any_list_joins}
use Rattle.actions.specs.Early.{unknown_refusal, early_refusal}
use Rattle.actions.proofs.EarlyLaws.{early_facts}
use Rattle.sheet.specs.Sheets.{decode_sheet, good_sheet, sheet_at, area_part, divided, merged}
use Rattle.sheet.proofs.SheetLaws.{divided_reads, divided_size, divided_merged, merged_size, merged_good}
use Rattle.machine.specs.Calls.{sheet_refusal, sheet_answer, sheet_after, division_answer, division_after}
use Rattle.machine.proofs.EditCalls.{sheet_not}
use Rattle.machine.proofs.ByteEdits.{whole_of, divided_edit_answer, divided_edit_after}
use Rattle.machine.proofs.ListEdits.{GoodSheet, sheet_kept}
use Rattle.machine.proofs.CentralEdits.{central_after}
use Rattle.findings.specs.Lists.{sheet_list, area_list, list_early, good_part, area_list_refusal}
use Rattle.findings.proofs.DividedLists.{area_listed}
use Rattle.recheck.specs.Rechecks.{list_refusal, recheck_refusal, recheck_list, own_refusal, area_recheck_refusal, area_recheck_list}
use Rattle.recheck.proofs.FourLaws.{fours_numbers, numbers_length}
use Rattle.demands.specs.Types.{Area, Edit, Network, Finding, Answer}
use Rattle.demands.specs.Rechecks.{Rechecked, SheetsRecheck, AreasRecheck, Joined, OtherListsRecheck}
use Rattle.demands.proofs.BytesHold.{parts_are_sheets}
use Rattle.demands.proofs.ListsHold.{area_found}

-- lists as numbers

-- the numbers of a rising list rise, and are not refused
numbers_rise : (fs : List Finding) → T (each_two before fs) → T (list_rises (numbers_of fs))
unfolding list_rises
numbers_rise fs t =
    both (eqb (length (numbers_of fs) % 4) 0) (each_two before (findings_in (numbers_of fs)))
    (true_T (eqb (length (numbers_of fs) % 4) 0) (eq-eqb (length (numbers_of fs) % 4) 0 (omega (arith, numbers_length fs))))
    (rw (fours_numbers fs) t)

numbers_taken : (fs : List Finding) → T (each_two before fs) → list_refusal (numbers_of fs) ≡ 0
unfolding list_refusal
numbers_taken fs t = rw (T_true (list_rises (numbers_of fs)) (numbers_rise fs t))

-- a list that is not refused rises
taken_rises : (list : List ℕ) → list_refusal list ≡ 0 → T (each_two before (findings_in list))
unfolding list_refusal list_rises
taken_rises list z = and_r (eqb (length list % 4) 0) (each_two before (findings_in list)) (held 2 (list_rises list) 0 z)

module _ (n : Network) (e : Edit) where
  -- what the theory says of lists, of their numbers
  numbers_rechecked : (refused : ℕ) (old new : List Finding) → refused ≡ 0 → theory.Rechecked n e old new
      → Rechecked n e refused (updated_numbers n e (numbers_of old) new) (numbers_of old) (numbers_of new)
  unfolding updated_numbers
  numbers_rechecked refused old new z r = record {
    accepted = z;
    same_list = rw (fours_numbers old) (ap numbers_of r.same_list);
    same_elsewhere = rw (fours_numbers old, fours_numbers new) r.same_elsewhere;
  }

  numbers_joined : (list : List ℕ) (new : List Finding) → list_refusal list ≡ 0 → T (each_two before new) → Joined n e list new (updated_numbers n e list new)
  unfolding updated_numbers
  numbers_joined list new z t =
      let there : theory.Joined n e (findings_in list) new = any_list_joins n e (findings_in list) new (taken_rises list z) t in
      record {
        rises = numbers_rise (updated n e (findings_in list) new) there.rises;
        entries = λ f. rw (fours_numbers (updated n e (findings_in list) new)) (there.entries f);
      }

-- an accepted edit on a sheet: nothing refuses it before the sheet is looked at, and the sheet is good

record Accepted (n : Network) (e : Edit) (sheet : List ℕ) : Type 0 where
  pub unrefused : early_refusal n e ≡ 0
  pub network : network_refusal n ≡ 0
  pub sheet_good : GoodSheet n network sheet

accepted_facts : (n : Network) (e : Edit) (sheet : List ℕ) → (sheet_answer n e sheet).refusal ≡ 0 → Accepted n e sheet
unfolding sheet_refusal
accepted_facts n e sheet z = by_value (eqb (sheet_refusal n e sheet) 0)
    (λ b.
    let p = call_passed (eqb (length sheet) 8192) (early_refusal n e) (good_sheet n (listed n) sheet) 0 (eqb-true (sheet_refusal n e sheet) 0 b) in
    record {
      unrefused = p.1;
      network = (early_facts n e p.1).network;
      sheet_good = record { size = eqb-true (length sheet) 8192 p.0; fine = true_T (good_sheet n (listed n) sheet) p.2 };
    })
    (λ b.
    let refuses : ¬ (sheet_refusal n e sheet ≡ 0) = eqb-false (sheet_refusal n e sheet) 0 b in
    absurd (refuses (sym (ap (λ (x : Answer). x.refusal) (sheet_not n e sheet (sheet_refusal n e sheet) refl refuses).0) ∙ z)))

-- a good sheet and a list that rises
sheet_taken : (n : Network) (good : network_refusal n ≡ 0) (e : Edit) (sheet list : List ℕ) → early_refusal n e ≡ 0 → GoodSheet n good sheet → list_refusal list ≡ 0
    → recheck_refusal n e sheet list ≡ 0
unfolding recheck_refusal
sheet_taken n good e sheet list q g z =
    call_late (eqb (length sheet) 8192) (early_refusal n e) (good_sheet n (listed n) sheet) (list_refusal list)
    (eq-eqb (length sheet) 8192 g.size) q (T_true (good_sheet n (listed n) sheet) g.fine) ∙ z

pub sheets_recheck : SheetsRecheck
unfolding recheck_list sheet_list
sheets_recheck n e sheet z =
    let A : Accepted n e sheet = accepted_facts n e sheet z in
    let g = A.sheet_good in
    let w : Whole n (decode_sheet sheet) = whole_of n A.network sheet g.size g.fine in
    numbers_rechecked n e (recheck_refusal n e (sheet_after n e sheet) (numbers_of (findings n (decode_sheet sheet))))
    (findings n (decode_sheet sheet)) (findings n (decode_sheet (sheet_after n e sheet)))
    (sheet_taken n A.network e (sheet_after n e sheet) (numbers_of (findings n (decode_sheet sheet))) A.unrefused (sheet_kept n A.network e sheet g)
    (numbers_taken (findings n (decode_sheet sheet)) (findings_rise n A.network (decode_sheet sheet) w)))
    (rw (central_after n A.network e sheet g)
    (recheck_is_new n A.network (area_of n) six (areas_group n A.network) (decode_sheet sheet) w e).whole)

-- on the sheets of a division

-- an area's sheet in the division of a good sheet: it is good, and holds the area's part of the timetable
module _ (n : Network) (good : network_refusal n ≡ 0) (sheet : List ℕ) (g : GoodSheet n good sheet) (a : Area) (t : T (area_ok a)) where
  abbrev part : List ℕ
  part = area_part (divided n sheet) a

  part_is : sheet_at (divided n sheet) a.0 ≡ part
  part_is = parts_are_sheets (divided n sheet) (divided_size n sheet g.size) a t

  part_reads : decode_sheet part ≡ divide (area_of n) (decode_sheet sheet) a.0
  part_reads = ap decode_sheet (sym part_is) ∙ divided_reads n sheet g.size a.0 t

  part_good : (eqb (length part) 8192 ≡ true) × (good_part n a part ≡ true)
  unfolding area_list_refusal
  part_good =
      let none : area_list_refusal n part a ≡ 0 = rw (← part_is) (area_listed n good sheet g.size g.fine a t) in
      let p = call_passed (eqb (length part) 8192) (list_early n (area_ok a)) (good_part n a part) 0 none in
      (p.0, p.2)

  part_taken : (e : Edit) (list : List ℕ) → early_refusal n e ≡ 0 → list_refusal list ≡ 0 → area_recheck_refusal n e a part list ≡ 0
  unfolding area_recheck_refusal own_refusal early_refusal
  part_taken e list q z =
      call_late (eqb (length part) 8192) (early (own_refusal a e) (network_refusal n) (unknown_refusal n e)) (good_part n a part) (list_refusal list)
      part_good.0 (rw (T_true (area_ok a) t) q) part_good.1 ∙ z

-- an edit, on an area's sheet before and after it
module _ (n : Network) (good : network_refusal n ≡ 0) (e : Edit) (sheet : List ℕ) (g : GoodSheet n good sheet) (a : Area) (t : T (area_ok a)) where
  abbrev here : List ℕ
  here = area_part (divided n sheet) a

  abbrev there : List ℕ
  there = area_part (divided n (sheet_after n e sheet)) a

  abbrev found : List ℕ → List Finding
  found s = group_findings n (area_of n) (decode_sheet s) a.0

  part_new : theory.Rechecked n e (found here) (found there)
  unfolding own_list
  part_new =
      rw (part_reads n good sheet g a t, part_reads n good (sheet_after n e sheet) (sheet_kept n good e sheet g) a t, central_after n good e sheet g)
      ((recheck_is_new n good (area_of n) six (areas_group n good) (decode_sheet sheet) (whole_of n good sheet g.size g.fine) e).group a.0)

  part_rechecked : early_refusal n e ≡ 0
      → Rechecked n e (area_recheck_refusal n e a there (area_list n here a)) (area_recheck_list n e a there (area_list n here a))
      (area_list n here a) (area_list n there a)
  unfolding area_recheck_list area_list
  part_rechecked q =
      let fine = part_good n good sheet g a t in
      numbers_rechecked n e (area_recheck_refusal n e a there (numbers_of (found here))) (found here) (found there)
      (part_taken n good (sheet_after n e sheet) (sheet_kept n good e sheet g) a t e (numbers_of (found here)) q
      (numbers_taken (found here) (area_found n good here a fine.0 fine.1)))
      part_new

pub areas_recheck : AreasRecheck
areas_recheck n good division size fine e z a t =
    let sheet : List ℕ = merged n division in
    let g : GoodSheet n good sheet = record { size = merged_size n good division size; fine = merged_good n good division size fine } in
    let back : division ≡ divided n sheet = sym (divided_merged n good division size fine) in
    let told : division_answer n e division ≡ sheet_answer n e sheet = ap (division_answer n e) back ∙ divided_edit_answer n good sheet g.size g.fine e in
    let left : division_after n e division ≡ divided n (sheet_after n e sheet) = ap (division_after n e) back ∙ divided_edit_after n good sheet g.size g.fine e in
    let unrefused : early_refusal n e ≡ 0 = (accepted_facts n e sheet (sym (ap (λ (x : Answer). x.refusal) told) ∙ z)).unrefused in
    rw (ap (λ (d : List ℕ). area_part d a) left, ap (λ (d : List ℕ). area_part d a) back) (part_rechecked n good e sheet g a t unrefused)

-- other lists

sheet_joined : (n : Network) (e : Edit) (sheet list : List ℕ) → recheck_refusal n e sheet list ≡ 0
    → Joined n e list (findings n (decode_sheet sheet)) (recheck_list n e sheet list)
unfolding recheck_refusal recheck_list
sheet_joined n e sheet list z =
    let p = call_passed (eqb (length sheet) 8192) (early_refusal n e) (good_sheet n (listed n) sheet) (list_refusal list) z in
    let good : network_refusal n ≡ 0 = (early_facts n e p.1).network in
    numbers_joined n e list (findings n (decode_sheet sheet)) p.3
    (findings_rise n good (decode_sheet sheet)
    (whole_of n good sheet (eqb-true (length sheet) 8192 p.0) (true_T (good_sheet n (listed n) sheet) p.2)))

area_joined : (n : Network) (e : Edit) (a : Area) (sheet list : List ℕ) → area_recheck_refusal n e a sheet list ≡ 0
    → Joined n e list (group_findings n (area_of n) (decode_sheet sheet) a.0) (area_recheck_list n e a sheet list)
unfolding area_recheck_refusal area_recheck_list
area_joined n e a sheet list z =
    let p = call_passed (eqb (length sheet) 8192) (early (own_refusal a e) (network_refusal n) (unknown_refusal n e)) (good_part n a sheet) (list_refusal list) z in
    let good : network_refusal n ≡ 0 = (early_passed (own_refusal a e) (network_refusal n) (unknown_refusal n e) p.1).1 in
    numbers_joined n e list (group_findings n (area_of n) (decode_sheet sheet) a.0) p.3 (area_found n good sheet a p.0 p.2)

pub other_lists_recheck : OtherListsRecheck
other_lists_recheck = record { sheets = sheet_joined; areas = area_joined }
