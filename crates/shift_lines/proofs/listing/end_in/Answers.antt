-- `shift_lines::listing::end_in` meets its contract: the division merges, and its sheet is good, so its findings are
-- listed. Assumes nothing.
use mathlib.Core.Path.{◌∙◌, ap}
use Rattle.sheet.specs.Sheets.{merged}
use Rattle.findings.specs.Lists.{sheet_list_refusal}
use Rattle.edit_calls.proofs.KnownGood.{network_good}
use Rattle.shift_lines.proofs.ListingLines.{merges, merged_listed, end_put}
use Rattle.shift_lines.proofs.listing.end_in.Goals as goal

pub returns : goal.returns
returns c =
    let s = c.args in
    let good = network_good s.n.now s.division.now c.requires.0 in
    let same = c.merge.ensures.1 ∙ merges s.n.now good s.division.now c.requires.0 _ c.requires.2 in
    let fine = ap (sheet_list_refusal s.n.now) same ∙ merged_listed s.n.now good s.division.now c.requires.0 in
    let w = c.put_whole-found in
    let t = c.put_totals-next in
    let u = c.put_tally in
    end_put s.n.now _ (merged s.n.now s.division.now) s.y s.at w.result.at t.result u.result w.result.count _ _ _ _ same fine c.requires.1 w.ensures.0 w.ensures.1 t.ensures u.ensures
