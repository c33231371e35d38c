-- Demand 3 from the bytes: of every good sheet, not only of sheets that were made of a timetable. Document 01, "Sheets
-- and division": "A good sheet is byte for byte that of its timetable"; "A whole timetable is a good sheet over all
-- stations." By the definitions that the calls' contracts cite. Nothing here is proved. Assumes nothing.
use Rattle.std.specs.Prelude.{ℕ, ◌≡◌, List, T, length}
use Rattle.base.specs.Runs.{run, answers}
use Rattle.railway.specs.Ranges.{area_ok}
use Rattle.network.specs.Networks.{network_refusal, listed, area_of}
use Rattle.timetable.specs.Machine.{after}
use Rattle.timetable.specs.Groups.{names_group, divide}
use Rattle.theory.specs.Reordering.{along, Reordering}
use Rattle.sheet.specs.Sheets.{encode_sheet, decode_sheet, good_sheet, good_division, sheet_at, area_part, divided, merged}
use Rattle.machine.specs.Calls.{sheet_answer, sheet_after, division_answer, division_after}
use Rattle.demands.specs.Types.{Area, Edit, Network}
use Rattle.demands.specs.Demand.{Demand3}

-- demand 3 of the timetable that a sheet holds; the central machine's sheet is what the edits leave of that sheet, so
-- that both sides are calls
pub record FromBytes (n : Network) (sheet : List ℕ) (es : List Edit) (ps : List ℕ) : Type 0 where
  pub its_sheet : encode_sheet (decode_sheet sheet) ≡ sheet
  pub demand : Demand3 n (decode_sheet sheet) es ps
  pub central_sheet : run (sheet_after n) es sheet ≡ encode_sheet (run (after n) es (decode_sheet sheet))
  pub same_answers : answers (division_after n) (division_answer n) (along es ps) (divided n sheet) ≡ along (answers (sheet_after n) (sheet_answer n) es sheet) ps
  pub same_division : run (division_after n) (along es ps) (divided n sheet) ≡ divided n (run (sheet_after n) es sheet)
  -- "One call gives back the part of the division that is one area's sheet": that part is the sheet of the area's part
  -- of the central timetable
  pub same_parts : (a : Area) → T (area_ok a)
      → area_part (run (division_after n) (along es ps) (divided n sheet)) a ≡ encode_sheet (divide (area_of n) (run (after n) es (decode_sheet sheet)) a.0)
  pub same_merged : merged n (run (division_after n) (along es ps) (divided n sheet)) ≡ run (sheet_after n) es sheet

-- every good network, every good sheet over all stations, every list of edits, and every reordering of it that demand 3
-- allows
abbrev pub DemandFromBytes : Type 0
DemandFromBytes = (n : Network) → network_refusal n ≡ 0 → (sheet : List ℕ) → length sheet ≡ 8192 → T (good_sheet n (listed n) sheet)
    → (es : List Edit) (ps : List ℕ) → Reordering (names_group n (area_of n)) es ps → FromBytes n sheet es ps

-- from every good division: it is the divided sheet of what it merges to
abbrev pub DemandFromDivision : Type 0
DemandFromDivision = (n : Network) → network_refusal n ≡ 0 → (division : List ℕ) → length division ≡ 49152 → T (good_division n division)
    → (es : List Edit) (ps : List ℕ) → Reordering (names_group n (area_of n)) es ps
    → (divided n (merged n division) ≡ division) × FromBytes n (merged n division) es ps

-- what is called an area's sheet in demand 3 is the part that the call gives back, of any division
abbrev pub PartsAreSheets : Type 0
PartsAreSheets = (division : List ℕ) → length division ≡ 49152 → (a : Area) → T (area_ok a) → sheet_at division a.0 ≡ area_part division a
