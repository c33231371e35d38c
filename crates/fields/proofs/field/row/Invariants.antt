-- `fields::field::row` meets its contract. The loop's invariant: the numbers read stand in the first places, and the
-- row is those numbers and then what is left. Assumes nothing.
use Prim.Native.Nat.{ℕ}
use mathlib.Core.Path.{◌≡◌}
use mathlib.Core.List.{List, [], map}
use lib.ListN.{drop}
use Rattle.timetable.specs.Formats.{Outcome, read, row}
use Rattle.fields.specs.declared.field.Span.{Span}
use Rattle.fields.specs.between.Answers.{padded, range_of}
use Rattle.fields.proofs.ReadLaws.{SoFar}
use Rattle.fields.proofs.field.row.Given as goal

abbrev pub left_at : List ℕ → List Span → ℕ → ℕ → Outcome (List ℕ)
left_at file spans i place = read (row (map range_of (drop i spans)) []) file place

abbrev pub invariant-loop-i : goal.invariant-loop-i
invariant-loop-i g l =
    (s : SoFar (left_at l.file l.used 0 l.at) l.i (left_at l.file l.used l.i l.place)) × (l.values ≡ padded g.row.N 0 s.elements)
