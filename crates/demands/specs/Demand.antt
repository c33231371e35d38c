-- Demand 3, to the byte: one statement about whole lists of edits, over the definitions that the calls' contracts cite.
-- On the one side the calls: a whole timetable's sheet is divided, the edits reach the division in the order ps, its
-- sheets are merged, and findings are listed from its sheets. On the other side document 01's central machine and its
-- findings: the edits in their first order, on the undivided timetable. Nothing here is proved; the theorem is in
-- proofs/DemandHolds.antt.
--
-- A reader needs: timetable Machine (`after`, `answer`), Findings (`findings`) and Good (`Whole`); theory Reordering;
-- sheet Sheets (`encode_sheet`, `sheet_at`, dividing and merging), machine Calls (edits on a division) and findings
-- Lists (lists formed from sheets). Assumes nothing.
use Rattle.std.specs.Prelude.{ℕ, ◌≡◌, Bool, T, length}
use mathlib.Core.List.{List, ◌++◌, flat_map}
use Rattle.base.specs.Lists.{any, each_two, pairs, below, same}
use Rattle.base.specs.Runs.{run, answers}
use Rattle.railway.specs.Ranges.{area_ok}
use Rattle.network.specs.Networks.{network_refusal, area_of}
use Rattle.timetable.specs.Machine.{Timetable, answer, after}
use Rattle.timetable.specs.Groups.{six, names_group, divide}
use Rattle.timetable.specs.Good.{Whole}
use Rattle.timetable.specs.Findings.{numbers, findings, findings_in}
use Rattle.theory.specs.Reordering.{along, Reordering}
use Rattle.theory.specs.Statements.{times_listed}
use Rattle.sheet.specs.Sheets.{encode_sheet, sheet_at, divided, divide_refusal, after_divide, merge_refusal, after_merge}
use Rattle.machine.specs.Calls.{division_answer, division_after}
use Rattle.findings.specs.Lists.{sheet_list, area_list, two_list, two_areas, sheet_list_refusal, area_list_refusal, two_list_refusal}
use Rattle.demands.specs.Types.{Area, Edit, Network, Finding}

abbrev pub area : ℕ → Area
area a = record { 0 = a }

-- the finding stands in the list
abbrev pub listed_in : Finding → List Finding → Bool
listed_in f fs = any (λ g. same (numbers f) (numbers g)) fs

-- the six areas' lists and the fifteen pairs' lists, each formed from its sheets in the division
unfoldable pub area_lists : Network → List ℕ → List ℕ
area_lists n division = flat_map (λ a. area_list n (sheet_at division a) (area a)) six

unfoldable pub pair_lists : Network → List ℕ → List ℕ
pair_lists n division = flat_map (λ ab. two_list n (sheet_at division ab.0) (sheet_at division ab.1) (area ab.0) (area ab.1)) (pairs six)

unfoldable pub all_lists : Network → List ℕ → List Finding
all_lists n division = findings_in (area_lists n division ++ pair_lists n division)

module _ (n : Network) (m : Timetable) (es : List Edit) (ps : List ℕ) where
  -- the central machine's timetable at the end
  abbrev pub central : Timetable
  central = run (after n) es m

  -- the division at the start, and after the edits in the order ps, each on what the one before left
  abbrev pub start : List ℕ
  start = divided n (encode_sheet m)

  abbrev pub end : List ℕ
  end = run (division_after n) (along es ps) start

  pub record Demand3 : Type 0 where
    -- "The reordered one starts on the divided timetable": the dividing call accepts its sheet and leaves that division
    -- in any buffer of the right length
    pub divides : (buffer : List ℕ) → length buffer ≡ 49152
        → (divide_refusal n (encode_sheet m) buffer ≡ 0) × (after_divide n (encode_sheet m) buffer ≡ start)
    -- "same answers": refusal and removed count of every edit, read along the positions
    pub same_answers : answers (division_after n) (division_answer n) (along es ps) start ≡ along (answers (after n) (answer n) es m) ps
    -- "same sheets": each area's sheet is byte for byte that of its part of the central timetable, and these six are
    -- all
    pub same_sheets : (a : Area) → T (area_ok a) → sheet_at end a.0 ≡ encode_sheet (divide (area_of n) central a.0)
    pub same_division : end ≡ divided n (encode_sheet central)
    -- "same merged timetable": the merging call accepts the division and leaves the central timetable's sheet
    pub same_merged : (buffer : List ℕ) → length buffer ≡ 8192
        → (merge_refusal n end buffer ≡ 0) × (after_merge n end buffer ≡ encode_sheet central)
    -- the calls that list findings accept their sheets, and the whole sheet's list is that of the central timetable,
    -- strictly rising
    pub area_listed : (a : Area) → T (area_ok a) → area_list_refusal n (sheet_at end a.0) a ≡ 0
    pub pair_listed : (a b : Area) → T (two_areas a b) → two_list_refusal n (sheet_at end a.0) (sheet_at end b.0) a b ≡ 0
    pub whole_listed : (sheet_list_refusal n (encode_sheet central) ≡ 0) × (findings_in (sheet_list n (encode_sheet central)) ≡ findings n central)
    pub rising : T (each_two (λ f g. below (numbers f) (numbers g)) (findings n central))
    -- "each finding exactly once among six areas and fifteen pairs", and no other stands there
    pub exactly_once : (f : Finding) → T (listed_in f (findings n central)) → times_listed f (all_lists n end) ≡ 1
    pub no_other : (f : Finding) → T (listed_in f (all_lists n end)) → T (listed_in f (findings n central))

-- every good network, every whole timetable, every list of edits, and every reordering of it in which two edits that
-- name a common area keep their order
abbrev pub DemandHolds : Type 0
DemandHolds = (n : Network) → network_refusal n ≡ 0 → (m : Timetable) → Whole n m
    → (es : List Edit) (ps : List ℕ) → Reordering (names_group n (area_of n)) es ps → Demand3 n m es ps

-- The key ring of this module: `unfolding opened` opens every definition above.
unfoldable pub opened : Unit {0}
unfolding area_lists pair_lists all_lists
opened = tt
