-- The line of totals of a sheet of the right length, from a place that is not too far. Assumes nothing.
use Prim.Native.Nat.{ℕ, ◌≤◌}
use mathlib.Core.Path.{◌≡◌}
use mathlib.Core.List.{List, [], ◌∷◌}
use native.Mathlib.Omega.{arith}
use lib.ListN.{length}
use borrow.Author.Tests.{eq-eqb}
use Rattle.timetable.specs.Count.{visit_count, relation_count}
use Rattle.sheet.specs.Sheets.{decode_sheet}
use Rattle.timetable_writing.specs.Writing.{sheet_totals}
use Rattle.listings.specs.Text.{line}
use Rattle.text.specs.between.Lines.{far}
use Rattle.text.proofs.WithinBounds.{line_there}
use Rattle.sheet_lines.specs.Types.{Network}
use Rattle.sheet_lines.specs.between.Sheets.{totals_at}

pub totals_there : (at : ℕ) → at ≤ far → (n : Network) (sheet : List ℕ) → length sheet ≡ 8192 → (count : ℕ)
    → totals_at at n sheet count ≡ line 84 (visit_count n (decode_sheet sheet) ∷ relation_count n (decode_sheet sheet) ∷ count ∷ [])
unfolding totals_at sheet_totals
totals_there at near n sheet size count = rw (eq-eqb (length sheet) 8192 size) (line_there at near 84 _ (omega arith))
