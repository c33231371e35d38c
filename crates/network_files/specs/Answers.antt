-- What the answers of the readers of rows and of a draft tell of the outcome of reading. Assumes nothing.
use Rattle.std.specs.Prelude.{ℕ, ◌≡◌, not, List, [], map, Result, MatchResult}
use Rattle.base.specs.Lists.{first}
use Rattle.base.specs.RefusalNumbers.{number_of}
use Rattle.base.specs.declared.refusal.FileError.{FileError}
use Rattle.network.specs.declared.StationRow.{StationRow}
use Rattle.network.specs.declared.LineRow.{LineRow}
use Rattle.network.specs.declared.Closure.{Closure}
use Rattle.network.specs.declared.Network.{Network}
use Rattle.network.specs.Networks.{blank_station, blank_line, blank_closure, ends_after, ends_listed, line_listed}
use Rattle.timetable.specs.Formats.{Outcome, accepted, refused, Placed}
use Rattle.timetable.specs.declared.Fault.{Fault}
use Rattle.timetable.specs.NetworkFile.{Listed, network_with, network_of, fault_of, network_fault}
use Rattle.fields.specs.between.Answers.{padded}
use Rattle.network_files.specs.between.Faults.{fault_told}
use Rattle.network_files.specs.declared.draft.LineRows.{LineRows}
use Rattle.network_files.specs.declared.draft.Draft.{Draft}
use Rattle.network_files.specs.declared.closures.ClosureRows.{ClosureRows}

-- document 01's number and values for each case: what stands for the value that was read, and the place behind it; or
-- the refusal's number and place
abbrev pub Tells : {A B : Type 0} → (A → B → Type 0) → Result (A × ℕ) FileError → Outcome B → Type 0
Tells {A} {B} Is r o = MatchResult r (λ (x : A × ℕ). (b : B) × (o ≡ accepted b x.1) × Is x.0 b) (λ (e : FileError). o ≡ refused (number_of e.refusal) e.place)

-- rows, blank behind those that are read, with the faults that they show beside a known network

abbrev pub StationsOf : List StationRow → List StationRow → Type 0
StationsOf rows ss = rows ≡ padded 16 blank_station ss

abbrev pub LinesOf : Network → LineRows → List (Placed LineRow) → Type 0
LinesOf n r ls = (r.rows ≡ padded 32 blank_line (map (λ l. l.entry) ls)) × (fault_told r.fault ≡ fault_of 4 (first (λ l. not (ends_listed n l.entry)) ls))

abbrev pub ClosuresOf : Network → ClosureRows → List (Placed Closure) → Type 0
ClosuresOf n r cs =
    (r.rows ≡ padded 32 blank_closure (map (λ c. c.entry) cs))
    × (fault_told r.unended ≡ fault_of 14 (first (λ c. not (ends_after c.entry)) cs))
    × (fault_told r.unlisted ≡ fault_of 4 (first (λ c. not (line_listed n c.entry.line)) cs))

-- the network of what stands before the lines, and before the closures, with the fault of its lines
unfoldable pub before_lines : List StationRow → ℕ → Network
before_lines ss h = network_with (record { stations = ss; headway = h; lines = []; closures = [] })

unfoldable pub before_closures : List StationRow → ℕ → List (Placed LineRow) → Network
before_closures ss h ls = network_with (record { stations = ss; headway = h; lines = map (λ l. l.entry) ls; closures = [] })

unfoldable pub lines_fault : List StationRow → ℕ → List (Placed LineRow) → Fault
lines_fault ss h ls = fault_of 4 (first (λ l. not (ends_listed (before_lines ss h) l.entry)) ls)

-- a draft of what is listed
abbrev pub DraftOf : Draft → Listed → Type 0
DraftOf d x = (d.network ≡ network_of x) × (fault_told d.fault ≡ network_fault x)

-- The key ring of this module: `unfolding opened` opens every definition above.
unfoldable pub opened : Unit {0}
unfolding before_lines before_closures lines_fault
opened = tt
