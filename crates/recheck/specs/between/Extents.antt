-- A recheck by the extent of its sheet: of all stations, or of an area's. Assumes nothing.
use Rattle.std.specs.Prelude.{ℕ, List}
use Rattle.timetable.specs.Machine.{edit_refusal}
use Rattle.sheet.specs.declared.test.Extent.{Extent}
use Rattle.recheck.specs.Types.{Edit, Network}
use Rattle.recheck.specs.Rechecks.{own_refusal, recheck_refusal, recheck_list, area_recheck_refusal, area_recheck_list}

abbrev pub extent_own : Extent → Edit → ℕ
extent_own Extent.Whole e = edit_refusal e
extent_own (Extent.Of a) e = own_refusal a e

abbrev pub extent_refusal : Network → Edit → Extent → List ℕ → List ℕ → ℕ
extent_refusal n e Extent.Whole sheet list = recheck_refusal n e sheet list
extent_refusal n e (Extent.Of a) sheet list = area_recheck_refusal n e a sheet list

abbrev pub extent_list : Network → Edit → Extent → List ℕ → List ℕ → List ℕ
extent_list n e Extent.Whole sheet list = recheck_list n e sheet list
extent_list n e (Extent.Of a) sheet list = area_recheck_list n e a sheet list
