-- What the functions put of a sheet. A sheet whose list of findings is refused, and a place that is further than any
-- text, put no finding. Assumes nothing.
use Rattle.std.specs.Prelude.{ℕ, ◌*◌, ◌<◌, ◌≡◌, Bool, ◌&&◌, List, [], ◌∷◌, eqb, leb, length, Option, Some, None}
use Rattle.base.specs.Choice.{◌if◌else◌}
use Rattle.std.specs.Prelude.{if◌then◌else◌}
use Rattle.timetable.specs.Findings.{findings}
use Rattle.sheet.specs.Sheets.{decode_sheet}
use Rattle.timetable_writing.specs.Writing.{sheet_totals}
use Rattle.timetable.specs.Outputs.{Puts}
use Rattle.builder.specs.between.Builder.{findings_most}
use Rattle.findings.specs.Lists.{sheet_list, sheet_list_refusal}
use Rattle.listings.specs.Inspect.{whole_text}
use Rattle.text.specs.between.Lines.{far, line_at}
use Rattle.sheet_lines.specs.Types.{Network}
use Rattle.sheet_lines.specs.declared.whole.Whole.{Whole}

module _ (at : ℕ) (n : Network) (sheet : List ℕ) where
  unfoldable pub is_listed : Bool
  is_listed = leb at far && eqb (sheet_list_refusal n sheet) 0

  -- the lines of all findings, and how many they are
  unfoldable pub whole_at : List ℕ
  whole_at = if is_listed then whole_text n (decode_sheet sheet) else []

  unfoldable pub whole_count : ℕ
  whole_count = length (findings n (decode_sheet sheet)) if is_listed else 0

  -- the lines were put, and these are the place behind them and their count
  abbrev pub PutsWhole : List ℕ → Whole → List ℕ → Type 0
  PutsWhole before r after = (Puts at whole_at before r.at after (26 * findings_most)) × (r.count ≡ whole_count)

  -- what listing in an array of such a length comes to: the lines are put; or the list is longer, and nothing is
  unfoldable pub Lists : ℕ → List ℕ → List ℕ → Option Whole → Type 0
  Lists room before after (Some w) = PutsWhole before w after
  Lists room before after None = (sheet_list_refusal n sheet ≡ 0) × (room < length (sheet_list n sheet)) × (after ≡ before)

  -- the line of totals, with so many findings
  unfoldable pub totals_at : ℕ → List ℕ
  totals_at count = line_at at 84 ((sheet_totals n sheet).visits ∷ (sheet_totals n sheet).relations ∷ count ∷ [])

-- The key ring of this module: `unfolding opened` opens every definition above.
unfoldable pub opened : Unit {0}
unfolding is_listed whole_at whole_count Lists totals_at
opened = tt
