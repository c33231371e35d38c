-- What the functions put of an area and of two areas: the lines of their findings, and none where the sheet's list of
-- findings is refused, there is no such area, or the two do not differ. Assumes nothing.
use Rattle.std.specs.Prelude.{ℕ, ◌&&◌, List, [], eqb}
use Rattle.std.specs.Prelude.{if◌then◌else◌}
use Rattle.railway.specs.Ranges.{area_ok}
use Rattle.sheet.specs.Sheets.{decode_sheet}
use Rattle.findings.specs.Lists.{sheet_list_refusal, two_areas}
use Rattle.listings.specs.Inspect.{area_text, pair_text}
use Rattle.area_lines.specs.Types.{Area, Network}

unfoldable pub area_lines : Network → List ℕ → Area → List ℕ
area_lines n sheet a = if eqb (sheet_list_refusal n sheet) 0 && area_ok a then area_text n (decode_sheet sheet) a.0 else []

unfoldable pub pair_lines : Network → List ℕ → Area → Area → List ℕ
pair_lines n sheet a b = if eqb (sheet_list_refusal n sheet) 0 && two_areas a b then pair_text n (decode_sheet sheet) (a.0, b.0) else []

-- The key ring of this module: `unfolding opened` opens every definition above.
unfoldable pub opened : Unit {0}
unfolding area_lines pair_lines
opened = tt
