-- The lists that the calls form. They rise: the sheet of an area and the sheets of two hold whole timetables, whose
-- findings rise, and the lists of areas and pairs are kept from those. A pair's list is the same with areas and sheets
-- exchanged: where it is formed the areas differ (findings TurnLaws), else nothing of it is read. Assumes nothing.
use Prim.Native.Nat.{ℕ}
use mathlib.Core.Path.{◌≡◌, sym, ◌∙◌, ap, ap₂}
use mathlib.Core.Bool.{Bool, true, false, not, ◌&&◌, ◌||◌}
use mathlib.Core.List.{List}
use lib.Dec.{T, eqb, eqb→eq}
use lib.ListN.{length}
use borrow.Author.Tests.{eqb-true, eq-eqb}
use Rattle.base.specs.Lists.{each_two, below}
use Rattle.base.proofs.Tests.{by_value, true_T, and_l, and_r}
use Rattle.railway.specs.Ranges.{area_ok}
use Rattle.network.specs.Networks.{network_refusal, listed, area_of}
use Rattle.timetable.specs.Machine.{Timetable}
use Rattle.timetable.specs.Groups.{gather}
use Rattle.timetable.specs.Good.{Whole, table_good}
use Rattle.timetable.specs.Findings.{Spanning, spanning, picked, findings, inside, group_findings, between, pair_findings, numbers, numbers_of, pair_list}
use Rattle.timetable.proofs.RefusalLaws.{call_passed}
use Rattle.timetable.specs.Outputs.{refused, output, output_after}
use Rattle.theory.proofs.Rising.{findings_rise}
use Rattle.theory.proofs.Rechecked.{picked_rises}
use Rattle.sheet.specs.Sheets.{decode_sheet, good_sheet}
use Rattle.machine.proofs.ByteEdits.{whole_of}
use Rattle.findings.specs.Lists.{sheet_list, area_list, two_parts, two_list, list_early, good_part, two_areas, sheet_list_refusal, area_list_refusal, two_list_refusal}
use Rattle.findings.proofs.ListCalls.{early_fine}
use Rattle.findings.proofs.TurnLaws.{two_list_turned, two_refusal_turned}
use Rattle.recheck.proofs.FourLaws.{fours_numbers, numbers_length}
use Rattle.demands.specs.Types.{Station, Area, Network, Finding}
use Rattle.demands.specs.Lists.{Rises, ListsRise, PairsAreUnordered}
use Rattle.demands.proofs.Gathered.{own_good, part_whole, gather_whole}

-- rising

-- the numbers of a rising list
rises : (fs : List Finding) → T (each_two (λ f g. below (numbers f) (numbers g)) fs) → Rises (numbers_of fs)
rises fs t = record { by_four = rw (fours_numbers fs) (numbers_length fs); rising = rw (fours_numbers fs) t }

-- what is kept from a rising list rises
findings_in_part : (n : Network) → network_refusal n ≡ 0 → (m : Timetable) → Whole n m → (p : Spanning → Bool)
    → T (each_two (λ f g. below (numbers f) (numbers g)) (picked p (spanning n m)))
unfolding findings
findings_in_part n good m w p = picked_rises p (spanning n m) (findings_rise n good m w)

whole_rises : (n : Network) (sheet : List ℕ) → sheet_list_refusal n sheet ≡ 0 → Rises (sheet_list n sheet)
unfolding sheet_list_refusal sheet_list
whole_rises n sheet r =
    let p = call_passed (eqb (length sheet) 8192) (network_refusal n) (good_sheet n (listed n) sheet) 0 r in
    rises (findings n (decode_sheet sheet))
    (findings_rise n p.1 (decode_sheet sheet)
    (whole_of n p.1 sheet (eqb-true (length sheet) 8192 p.0) (true_T (good_sheet n (listed n) sheet) p.2)))

-- what is found from an area's sheet
pub area_found : (n : Network) → network_refusal n ≡ 0 → (sheet : List ℕ) (a : Area) → eqb (length sheet) 8192 ≡ true → good_part n a sheet ≡ true
    → T (each_two (λ f g. below (numbers f) (numbers g)) (group_findings n (area_of n) (decode_sheet sheet) a.0))
unfolding group_findings good_part
area_found n good sheet a p q =
    findings_in_part n good (decode_sheet sheet)
    (part_whole n good a.0 sheet (eqb-true (length sheet) 8192 p) (true_T (good_part n a sheet) q)) (inside (area_of n) a.0)

area_rises : (n : Network) (sheet : List ℕ) (a : Area) → area_list_refusal n sheet a ≡ 0 → Rises (area_list n sheet a)
unfolding area_list_refusal area_list
area_rises n sheet a r =
    let p = call_passed (eqb (length sheet) 8192) (list_early n (area_ok a)) (good_part n a sheet) 0 r in
    let good : network_refusal n ≡ 0 = (early_fine n (area_ok a) p.1).1 in
    rises (group_findings n (area_of n) (decode_sheet sheet) a.0)
    (area_found n good sheet a p.0 p.2)

pair_rises : (n : Network) (first second : List ℕ) (a b : Area) → two_list_refusal n first second a b ≡ 0 → Rises (two_list n first second a b)
unfolding two_list_refusal two_list pair_list pair_findings two_parts good_part
pair_rises n first second a b r =
    let p = call_passed (eqb (length first) 8192 && eqb (length second) 8192) (list_early n (two_areas a b)) (good_part n a first && good_part n b second) 0 r in
    let good : network_refusal n ≡ 0 = (early_fine n (two_areas a b) p.1).1 in
    let sizes = true_T (eqb (length first) 8192 && eqb (length second) 8192) p.0 in
    let fine = true_T (good_part n a first && good_part n b second) p.2 in
    let size : length first ≡ 8192 = eqb→eq (length first) 8192 (and_l (eqb (length first) 8192) (eqb (length second) 8192) sizes) in
    let size' : length second ≡ 8192 = eqb→eq (length second) 8192 (and_r (eqb (length first) 8192) (eqb (length second) 8192) sizes) in
    rises (pair_findings n (area_of n) (gather (area_of n) two (two_parts first second a b)) a.0 b.0)
    (findings_in_part n good (gather (area_of n) two (two_parts first second a b))
    (gather_whole n good two (two_parts first second a b)
    (tables good size (and_l (good_part n a first) (good_part n b second) fine) size' (and_r (good_part n a first) (good_part n b second) fine)))
    (between (area_of n) a.0 b.0))
  where
    two : ℕ → Bool
    two = λ x. eqb x a.0 || eqb x b.0

    tables : (good : network_refusal n ≡ 0) → length first ≡ 8192 → T (good_part n a first) → length second ≡ 8192 → T (good_part n b second)
        → (k : Station) → T (listed n k) → two (area_of n k) ≡ true → T (table_good n k (two_parts first second a b (area_of n k) k))
    tables good size fine size' fine' k l q = by_value (eqb (area_of n k) a.0)
        (λ e. rw e (own_good n good a.0 first size fine k l (eqb-true (area_of n k) a.0 e)))
        (λ e. let f : eqb (area_of n k) b.0 ≡ true = (rw e at q) in
        rw (e, f) (own_good n good b.0 second size' fine' k l (eqb-true (area_of n k) b.0 f)))

pub lists_rise : ListsRise
lists_rise = record { whole = whole_rises; of_area = area_rises; of_pair = pair_rises }

-- pairs

-- what a call answers that forms a list, and what it leaves, read the list only where nothing refuses it
read_where_formed : (k k' : ℕ) (l l' out : List ℕ) → k ≡ k' → (k ≡ 0 → l ≡ l') → (output k l out ≡ output k' l' out) × (output_after k l out ≡ output_after k' l' out)
unfolding output output_after
read_where_formed k k' l l' out q h = by_value (eqb k 0)
    (λ z. let same : l ≡ l' = h (eqb-true k 0 z) in (ap₂ (λ (i : ℕ) (x : List ℕ). output i x out) q same, ap₂ (λ (i : ℕ) (x : List ℕ). output_after i x out) q same))
    (λ z. let z' : eqb k' 0 ≡ false = ap (λ (i : ℕ). eqb i 0) (sym q) ∙ z in (rw (z, z') (ap refused q), rw (z, z')))

-- a list is formed of two areas that differ
formed_differ : (n : Network) (first second : List ℕ) (a b : Area) → two_list_refusal n first second a b ≡ 0 → ¬ (a.0 ≡ b.0)
unfolding two_list_refusal two_areas
formed_differ n first second a b r q =
    let p = call_passed (eqb (length first) 8192 && eqb (length second) 8192) (list_early n (two_areas a b)) (good_part n a first && good_part n b second) 0 r in
    let two : T (area_ok a && (area_ok b && not (eqb a.0 b.0))) = (early_fine n (two_areas a b) p.1).0 in
    let differ : T (not (eqb a.0 b.0)) = and_r (area_ok b) (not (eqb a.0 b.0)) (and_r (area_ok a) (area_ok b && not (eqb a.0 b.0)) two) in
    rw (eq-eqb a.0 b.0 q) at differ

pub pairs_are_unordered : PairsAreUnordered
pairs_are_unordered n first second a b out =
    let (told, left) = read_where_formed (two_list_refusal n first second a b) (two_list_refusal n second first b a) (two_list n first second a b) (two_list n second first b a) out
    (two_refusal_turned n first second a b) (λ r. two_list_turned n first second a b (formed_differ n first second a b r)) in
    record { same_answer = told; same_list = left }
