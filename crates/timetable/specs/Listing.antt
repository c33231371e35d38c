-- What the program `shift` prints of a list of edits, as numbers: a line is its letter's code and its numbers. Document
-- 01, "A run of the program `shift`". Assumes nothing.
use Rattle.std.specs.Prelude.{ℕ, ◌+◌, List, [], ◌∷◌, ◌++◌, map, length}
use Rattle.base.specs.Runs.{run, answers}
use Rattle.timetable.specs.Types.{Edit, Network, Answer, Tally, Finding}
use Rattle.timetable.specs.Machine.{Timetable, nothing_placed, answer, after}
use Rattle.timetable.specs.Findings.{findings}
use Rattle.timetable.specs.Count.{zero_tally, raise_all, visit_count, relation_count}

-- "E: edit, refusal, removed." Edits are counted from 1.
unfoldable pub answer_lines : ℕ → List Answer → List (List ℕ)
answer_lines k [] = []
answer_lines k (a ∷ rest) = (69 ∷ k ∷ a.refusal ∷ a.removed ∷ []) ∷ answer_lines (k + 1) rest

-- "F: a central finding."
unfoldable pub finding_line : Finding → List ℕ
finding_line f = 70 ∷ f.station.0 ∷ f.rule ∷ f.first ∷ f.second ∷ []

-- "A: the tally."
unfoldable pub tally_line : Tally → List ℕ
tally_line y = 65 ∷ y.accepted ∷ y.refused ∷ y.added ∷ y.removed ∷ []

-- "network, then edits, from an empty division"; "T: visits, relations, findings."
unfoldable pub listing : Network → List Edit → List (List ℕ)
listing n es =
    let told : List Answer = answers (after n) (answer n) es nothing_placed in
    let end : Timetable = run (after n) es nothing_placed in
    let fs : List Finding = findings n end in
    answer_lines 1 told
    ++ (map finding_line fs
    ++ ((84 ∷ visit_count n end ∷ relation_count n end ∷ length fs ∷ []) ∷ tally_line (raise_all zero_tally es told) ∷ []))

-- The key ring of this module: `unfolding opened` opens every definition above.
unfoldable pub opened : Unit {0}
unfolding answer_lines finding_line tally_line listing
opened = tt
