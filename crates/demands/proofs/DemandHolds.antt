-- Demand 3 holds to the byte. Edits on the divided sheet are the edits on the sheet, divided (machine ListEdits); those
-- are the central machine's on its timetable (machine CentralEdits), which answers and ends alike in every order that
-- is asked (theory Demand). So the division is that of the central timetable's sheet: it merges back, and the lists
-- formed from its sheets are those of the theory (findings DividedLists). Assumes nothing.
use Prim.Native.Nat.{ℕ}
use mathlib.Core.Path.{◌≡◌, ◌∙◌, ap}
use mathlib.Core.List.{List}
use lib.Dec.{T, eqb}
use lib.ListN.{length}
use borrow.Author.Tests.{eq-eqb}
use Rattle.base.specs.Runs.{run, answers}
use Rattle.base.proofs.Tests.{T_true}
use Rattle.railway.specs.Ranges.{area_ok}
use Rattle.network.specs.Networks.{network_refusal, listed, area_of}
use Rattle.timetable.specs.Machine.{Timetable, answer, after}
use Rattle.timetable.specs.Groups.{six, divide}
use Rattle.timetable.specs.Good.{Whole}
use Rattle.timetable.specs.Findings.{findings, findings_in}
use Rattle.theory.specs.Reordering.{along}
use Rattle.theory.specs.Statements.{AnyOrder, Findings}
use Rattle.theory.specs.Statements as theory
use Rattle.theory.proofs.Ordered.{any_order, areas_group}
use Rattle.theory.proofs.Shared.{findings_shared}
use Rattle.theory.proofs.Kept.{run_whole}
use Rattle.sheet.specs.Sheets.{encode_sheet, decode_sheet, good_sheet, sheet_at, divided}
use Rattle.sheet.proofs.SheetLaws.{area_number, divided_reads}
use Rattle.machine.specs.Calls.{division_after}
use Rattle.machine.proofs.ByteEdits.{divided_part}
use Rattle.machine.proofs.ListEdits.{GoodSheet, run_divided, answers_divided}
use Rattle.machine.proofs.CentralEdits.{central_answers}
use Rattle.machine.proofs.WholeSheets.{whole_good, whole_back, bytes_run, divides, merges}
use Rattle.findings.specs.Lists.{sheet_list, sheet_list_refusal}
use Rattle.findings.proofs.DividedLists.{list_formed, area_listed, pair_listed}
use Rattle.demands.specs.Types.{Area, Network}
use Rattle.recheck.proofs.FourLaws.{fours_numbers}
use Rattle.demands.specs.Demand.{DemandHolds, all_lists}
use Rattle.demands.proofs.AllLists.{all_same}

-- what the sheet of a whole timetable and its division hold
module _ (n : Network) (good : network_refusal n ≡ 0) (m : Timetable) (w : Whole n m) where
  abbrev sheet : List ℕ
  sheet = encode_sheet m

  abbrev g : GoodSheet n good sheet
  g = whole_good n good m w

  whole_listed : (sheet_list_refusal n sheet ≡ 0) × (findings_in (sheet_list n sheet) ≡ findings n m)
  unfolding sheet_list_refusal sheet_list
  whole_listed = (
    list_formed (eqb (length sheet) 8192) (network_refusal n) (good_sheet n (listed n) sheet)
        (eq-eqb (length sheet) 8192 g.size) good (T_true (good_sheet n (listed n) sheet) g.fine),
    fours_numbers (findings n (decode_sheet sheet)) ∙ ap (findings n) (whole_back n good m w),
  )

  reads : (a : ℕ) → T (area_number a) → decode_sheet (sheet_at (divided n sheet) a) ≡ divide (area_of n) m a
  reads a t = divided_reads n sheet g.size a t ∙ ap (λ (x : Timetable). divide (area_of n) x a) (whole_back n good m w)

  same_sheets : (a : Area) → T (area_ok a) → sheet_at (divided n sheet) a.0 ≡ encode_sheet (divide (area_of n) m a.0)
  same_sheets a t =
      divided_part n good sheet g.size g.fine a.0 t ∙ ap (λ (x : Timetable). encode_sheet (divide (area_of n) x a.0)) (whole_back n good m w)

pub demand_holds : DemandHolds
demand_holds n good m w es ps R =
    let there : AnyOrder n m es ps = any_order n (area_of n) m es ps R in
    let last : Timetable = run (after n) es m in
    let whole : Whole n last = run_whole n es m w in
    let g = whole_good n good m w in
    let h = whole_good n good last whole in
    let shared : Findings n (area_of n) six last = findings_shared n good (area_of n) six (areas_group n good) last whole in
    let later : run (division_after n) (along es ps) (divided n (encode_sheet m)) ≡ divided n (encode_sheet last) =
    run_divided n good (along es ps) (encode_sheet m) g
    ∙ ap (divided n) (bytes_run n good m w (along es ps) ∙ ap encode_sheet there.same_timetable) in
    let lists : all_lists n (divided n (encode_sheet last)) ≡ theory.all_lists n (area_of n) six (divide (area_of n) last) =
    all_same n (divided n (encode_sheet last)) last (reads n good last whole) in
    record {
      divides = divides n good (encode_sheet m) g;
      same_answers =
          answers_divided n good (along es ps) (encode_sheet m) g
          ∙ central_answers n good (along es ps) (encode_sheet m) g
          ∙ ap (answers (after n) (answer n) (along es ps)) (whole_back n good m w)
          ∙ there.same_answers;
      same_sheets = rw later (same_sheets n good last whole);
      same_division = later;
      same_merged = rw later (merges n good (encode_sheet last) h);
      area_listed = rw later (area_listed n good (encode_sheet last) h.size h.fine);
      pair_listed = rw later (pair_listed n good (encode_sheet last) h.size h.fine);
      whole_listed = whole_listed n good last whole;
      rising = shared.rising;
      exactly_once = rw (later, lists) shared.exactly_once;
      no_other = rw (later, lists) shared.no_other;
    }
