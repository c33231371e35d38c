-- `network_files::draft::lines` meets its contract. The loop's invariant: the rows read stand in the first places, the
-- list is those rows and then what is left, and the fault is that of the rows read. Assumes nothing.
use Prim.Native.Nat.{ℕ, ◌-◌}
use mathlib.Core.Path.{◌≡◌}
use mathlib.Core.Bool.{Bool, not}
use mathlib.Core.List.{List, [], ◌∷◌, map}
use Rattle.base.specs.Lists.{first}
use Rattle.network.specs.declared.LineRow.{LineRow}
use Rattle.network.specs.declared.Network.{Network}
use Rattle.network.specs.Networks.{blank_line, ends_listed}
use Rattle.timetable.specs.Formats.{Outcome, read, entries, Placed}
use Rattle.timetable.specs.NetworkFile.{fault_of, line_entry, line_floor}
use Rattle.timetable.specs.declared.NetworkForm.{NetworkForm}
use Rattle.fields.specs.between.Answers.{padded}
use Rattle.fields.proofs.ReadLaws.{SoFar}
use Rattle.network_files.specs.between.Faults.{fault_told}
use Rattle.network_files.proofs.draft.lines.Given as goal

abbrev pub left_at : NetworkForm → List ℕ → ℕ → ℕ → ℕ → Outcome (List (Placed LineRow))
left_at form file k before place = read (entries (line_entry form) line_floor k (before ∷ [])) file place

abbrev pub rows_of : List (Placed LineRow) → List LineRow
rows_of ls = map (λ l. l.entry) ls

abbrev pub loose : Network → Placed LineRow → Bool
loose known l = not (ends_listed known l.entry)

abbrev pub invariant-loop-i : goal.invariant-loop-i
invariant-loop-i l =
    (s : SoFar (left_at l.form l.file l.count 0 l.at) l.i (left_at l.form l.file (l.count - l.i) l.before l.place))
    × (l.rows ≡ padded 32 blank_line (rows_of s.elements)) × (fault_told l.fault ≡ fault_of 4 (first (loose l.known) s.elements))
