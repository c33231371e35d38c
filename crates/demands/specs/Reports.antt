-- Reports from the future, of the bytes. Document 02, W7: "It refuses, with 15 .., a report whose event time is later
-- than the minute it carries, tested straight after 3 ..; such an edit names no area." Of the edit on a sheet and on a
-- division, by the definitions that the calls' contracts cite; the sheets may be good or not. What is said of the
-- central machine stands in theory Reports. Nothing here is proved. Assumes nothing.
use Rattle.std.specs.Prelude.{ℕ, ◌≤◌, ◌≡◌, List, T, length}
use Rattle.railway.specs.Ranges.{minute_ok}
use Rattle.railway.specs.Edits.{edit_ok}
use Rattle.network.specs.Networks.{network_refusal}
use Rattle.timetable.specs.Reports.{future}
use Rattle.theory.specs.Reports.{carrying}
use Rattle.machine.specs.Calls.{refused_with, sheet_answer, sheet_after, division_answer, division_after}
use Rattle.demands.specs.Types.{Minute, Report, Edit, ReportArrival, ReportDeparture, Network}

-- a report from the future is answered with 15, whatever the buffer of its length holds: it is never 6; behind 5 and 3
pub record FutureBytes (n : Network) (e : Edit) : Type 0 where
  pub of_sheet : (sheet : List ℕ) → length sheet ≡ 8192 → (sheet_answer n e sheet ≡ refused_with 15) × (sheet_after n e sheet ≡ sheet)
  pub of_division : (d : List ℕ) → length d ≡ 49152 → (division_answer n e d ≡ refused_with 15) × (division_after n e d ≡ d)

abbrev pub FutureIsAnswered : Type 0
FutureIsAnswered = (n : Network) → ¬ (network_refusal n ≡ 3) → (e : Edit) → T (edit_ok e) → T (future e) → FutureBytes n e

-- a report that is taken is not after its minute
abbrev pub TakenIsPast : Type 0
TakenIsPast = (n : Network) (r : Report) (b : List ℕ)
    → (((sheet_answer n (ReportArrival r) b).refusal ≡ 0 → r.time.0 ≤ r.present.0) × ((sheet_answer n (ReportDeparture r) b).refusal ≡ 0 → r.time.0 ≤ r.present.0))
    × (((division_answer n (ReportArrival r) b).refusal ≡ 0 → r.time.0 ≤ r.present.0) × ((division_answer n (ReportDeparture r) b).refusal ≡ 0 → r.time.0 ≤ r.present.0))

-- no byte keeps the minute
pub record SameBytes (n : Network) (e f : Edit) : Type 0 where
  pub of_sheet : (sheet : List ℕ) → (sheet_answer n e sheet ≡ sheet_answer n f sheet) × (sheet_after n e sheet ≡ sheet_after n f sheet)
  pub of_division : (d : List ℕ) → (division_answer n e d ≡ division_answer n f d) × (division_after n e d ≡ division_after n f d)

abbrev pub NoByteKeepsIt : Type 0
NoByteKeepsIt = (n : Network) (r : Report) (p q : Minute) → T (minute_ok p) → T (minute_ok q) → r.time.0 ≤ p.0 → r.time.0 ≤ q.0
    → SameBytes n (ReportArrival (carrying p r)) (ReportArrival (carrying q r)) × SameBytes n (ReportDeparture (carrying p r)) (ReportDeparture (carrying q r))
