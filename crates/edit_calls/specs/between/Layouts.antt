-- The calls on a sheet and on a division as one, by how the pages lie. Assumes nothing.
use Rattle.std.specs.Prelude.{ℕ, not, List}
use Rattle.base.specs.Choice.{◌if◌else◌}
use Rattle.network.specs.Networks.{network_refusal}
use Rattle.timetable.specs.Refusals.{or_else}
use Rattle.sheet.specs.declared.test.Extent.{Extent}
use Rattle.sheet.specs.between.Passes.{sheet_passes}
use Rattle.named_sheets.specs.between.Named.{named_refusal}
use Rattle.machine.specs.Calls.{sheet_refusal, sheet_answer, sheet_after, division_refusal, division_answer, division_after}
use Rattle.edit_calls.specs.Types.{Layout, Edit, Network, Answer}

abbrev pub call_answer : Layout → Network → Edit → List ℕ → Answer
call_answer Layout.Sheet = sheet_answer
call_answer Layout.Division = division_answer

abbrev pub call_after : Layout → Network → Edit → List ℕ → List ℕ
call_after Layout.Sheet = sheet_after
call_after Layout.Division = division_after

abbrev pub call_refused : Layout → Network → Edit → List ℕ → ℕ
call_refused Layout.Sheet = sheet_refusal
call_refused Layout.Division = division_refusal

-- what the test of the sheets that the edit works on refuses: the network, or 6
unfoldable pub sheets_refusal : Layout → Network → Edit → List ℕ → ℕ
sheets_refusal Layout.Sheet n e b = or_else (network_refusal n) (6 if not (sheet_passes n Extent.Whole b) else 0)
sheets_refusal Layout.Division n e b = named_refusal n e b
