-- A list by the extent of its sheet: of all stations, or of an area's. Assumes nothing.
use Rattle.std.specs.Prelude.{ℕ, Bool, true, List}
use Rattle.railway.specs.Ranges.{area_ok}
use Rattle.scope.specs.declared.Scope.{Scope}
use Rattle.sheet.specs.declared.test.Extent.{Extent}
use Rattle.findings.specs.Types.{Network}
use Rattle.findings.specs.Lists.{sheet_list, area_list, sheet_list_refusal, area_list_refusal}

abbrev pub extent_known : Extent → Bool
extent_known Extent.Whole = true
extent_known (Extent.Of a) = area_ok a

abbrev pub scope_of : Extent → Scope
scope_of Extent.Whole = Scope.Whole
scope_of (Extent.Of a) = Scope.Within a

abbrev pub extent_list : Network → Extent → List ℕ → List ℕ
extent_list n Extent.Whole sheet = sheet_list n sheet
extent_list n (Extent.Of a) sheet = area_list n sheet a

abbrev pub extent_refusal : Network → Extent → List ℕ → ℕ
extent_refusal n Extent.Whole sheet = sheet_list_refusal n sheet
extent_refusal n (Extent.Of a) sheet = area_list_refusal n sheet a
