-- `network_files::closures::closures` meets its contract. The loop's invariant: the rows read stand in the first
-- places, the list is those rows and then what is left, and the two faults are those of the rows read. Assumes nothing.
use Prim.Native.Nat.{ℕ, ◌-◌}
use mathlib.Core.Path.{◌≡◌}
use mathlib.Core.Bool.{Bool, not}
use mathlib.Core.List.{List, [], ◌∷◌, map}
use Rattle.base.specs.Lists.{first}
use Rattle.network.specs.declared.Closure.{Closure}
use Rattle.network.specs.declared.Network.{Network}
use Rattle.network.specs.Networks.{blank_closure, ends_after, line_listed}
use Rattle.timetable.specs.Formats.{Outcome, read, entries, Placed}
use Rattle.timetable.specs.NetworkFile.{fault_of, closure_entry, closure_floor}
use Rattle.fields.specs.between.Answers.{padded}
use Rattle.fields.proofs.ReadLaws.{SoFar}
use Rattle.network_files.specs.between.Faults.{fault_told}
use Rattle.network_files.proofs.closures.closures.Given as goal

abbrev pub left_at : List ℕ → ℕ → ℕ → ℕ → ℕ → Outcome (List (Placed Closure))
left_at file k l s place = read (entries closure_entry closure_floor k (l ∷ s ∷ [])) file place

abbrev pub rows_of : List (Placed Closure) → List Closure
rows_of cs = map (λ c. c.entry) cs

abbrev pub lasting : Placed Closure → Bool
lasting c = not (ends_after c.entry)

abbrev pub loose : Network → Placed Closure → Bool
loose known c = not (line_listed known c.entry.line)

abbrev pub invariant-loop-i : goal.invariant-loop-i
invariant-loop-i l =
    (s : SoFar (left_at l.file l.count 0 0 l.at) l.i (left_at l.file (l.count - l.i) l.before.line.0 l.before.start.0 l.place))
    × (l.rows ≡ padded 32 blank_closure (rows_of s.elements)) × (fault_told l.unended ≡ fault_of 14 (first lasting s.elements))
    × (fault_told l.unlisted ≡ fault_of 4 (first (loose l.known) s.elements))
