-- The calls: an edit on a sheet and an edit on a division, each by one equation for its answer and one for the bytes
-- afterwards. The central machine works on what the named sheets hold, and its outcome is put back. Document 01, "Who
-- brings on which number": "Order: 5, 3, 4, 7, 6, 8, 9, 10, 11, 12". Assumes nothing.
use Rattle.std.specs.Prelude.{ℕ, Bool, not, ◌&&◌, ◌||◌, eqb, length}
use mathlib.Core.List.{List, flat_map}
use Rattle.std.specs.Prelude.{if◌then◌else◌}
use Rattle.base.specs.Lists.{every}
use Rattle.network.specs.Networks.{listed, area_of}
use Rattle.timetable.specs.Refusals.{call_refusal}
use Rattle.timetable.specs.Machine.{answer, after}
use Rattle.timetable.specs.Groups.{six, Divided, in_group, names_group, divided_answer, divided_after}
use Rattle.actions.specs.Early.{early_refusal}
use Rattle.sheet.specs.Sheets.{encode_sheet, decode_sheet, good_sheet, sheet_at}
use Rattle.machine.specs.Types.{Edit, Network, Answer}

abbrev pub refused_with : ℕ → Answer
refused_with k = record { refusal = k; removed = 0 }

-- on a sheet

unfoldable pub sheet_refusal : Network → Edit → List ℕ → ℕ
sheet_refusal n e sheet = call_refusal (eqb (length sheet) 8192) (early_refusal n e) (good_sheet n (listed n) sheet) 0

unfoldable pub sheet_answer : Network → Edit → List ℕ → Answer
sheet_answer n e sheet =
    if eqb (sheet_refusal n e sheet) 0 then answer n e (decode_sheet sheet) else refused_with (sheet_refusal n e sheet)

unfoldable pub sheet_after : Network → Edit → List ℕ → List ℕ
sheet_after n e sheet = if eqb (sheet_refusal n e sheet) 0 then encode_sheet (after n e (decode_sheet sheet)) else sheet

-- on a division

-- "6 a sheet it reads isn't good": those of the named areas
unfoldable pub named_good : Network → Edit → List ℕ → Bool
named_good n e division =
    every (λ a. not (names_group n (area_of n) e a) || good_sheet n (λ k. listed n k && in_group (area_of n) a k) (sheet_at division a)) six

unfoldable pub parts : List ℕ → Divided
parts division = λ a. decode_sheet (sheet_at division a)

unfoldable pub division_refusal : Network → Edit → List ℕ → ℕ
division_refusal n e division = call_refusal (eqb (length division) 49152) (early_refusal n e) (named_good n e division) 0

unfoldable pub division_answer : Network → Edit → List ℕ → Answer
division_answer n e division =
    if eqb (division_refusal n e division) 0 then divided_answer n (area_of n) e (parts division) else refused_with (division_refusal n e division)

-- "It reads and changes only the sheets of those areas."
unfoldable pub division_after : Network → Edit → List ℕ → List ℕ
division_after n e division =
    if eqb (division_refusal n e division) 0
    then flat_map (λ a. if names_group n (area_of n) e a then encode_sheet (divided_after n (area_of n) e (parts division) a) else sheet_at division a) six
    else division

-- The key ring of this module: `unfolding opened` opens every definition above.
unfoldable pub opened : Unit {0}
unfolding sheet_refusal sheet_answer sheet_after named_good parts division_refusal division_answer division_after
opened = tt
