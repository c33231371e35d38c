-- `network_files::draft::station_row` meets its contract: the row of numbers decides, and an accepted one is the
-- station of its numbers, which all fit bytes. Assumes nothing.
use Prim.Native.Nat.{ℕ, ◌+◌}
use mathlib.Core.Path.{◌≡◌, refl, sym, ◌∙◌, ap}
use mathlib.Core.List.{List, [], ◌∷◌}
use Rattle.base.specs.Lists.{every}
use Rattle.base.specs.RefusalNumbers.{number_of}
use Rattle.timetable.specs.Formats.{Range, ◌to◌}
use Rattle.timetable.specs.NetworkFile.{station_ranges, station_of, station_entry}
use Rattle.fields.proofs.ReadLaws.{refused_told}
use Rattle.network_files.specs.between.Rows.{above}
use Rattle.network_files.proofs.DraftLaws.{row_made, row_unmade, station_bytes}
use Rattle.network_files.proofs.draft.station_row.Goals as goal

abbrev ranges : ℕ → List Range
ranges b = (b + 1) to 16 ∷ 1 to 6 ∷ 1 to 8 ∷ []

raised : (a b : ℕ) → a ≡ b → ranges a ≡ above b station_ranges
unfolding above station_ranges
raised a b e = ap ranges e

pub returns-in_err-station : goal.returns-in_err-station
unfolding station_entry station_ranges every
returns-in_err-station c =
    let s = c.args in
    let e = c.in_err-station.field-0.0 in
    refused_told c.from_residual.result e c.from_residual.ensures.1
    ∙ row_unmade station_of station_ranges tt tt s.before s.file.now s.at (ranges c.from.result) (raised c.from.result s.before c.from.ensures) (number_of e.refusal) e.place (sym (c.in_err-station.ensures.whole refl))

pub returns : goal.returns
unfolding station_entry station_ranges every
returns c =
    let s = c.args in
    let r = c.in_ok-station in
    row_made station_of station_ranges tt tt s.before s.file.now s.at (ranges c.from.result) (raised c.from.result s.before c.from.ensures) r.field-0-0 r.place (sym (r.ensures.whole refl))
    _ (station_bytes r.field-0-0 c.narrow.result c.narrow-2.result c.narrow-3.result c.narrow.ensures c.narrow-2.ensures c.narrow-3.ensures)
