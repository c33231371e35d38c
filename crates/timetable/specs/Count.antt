-- The tally, and counts over a whole timetable. Document 01, "Projection and tally" and "A run of the program `shift`".
-- Assumes nothing.
use Rattle.std.specs.Prelude.{ℕ, ◌+◌, Bool, true, false, not, ◌&&◌, ◌||◌, List, [], ◌∷◌, ltb, eqb, length}
use Rattle.base.specs.Choice.{◌if◌else◌}
use Rattle.std.specs.Prelude.{if◌then◌else◌}
use Rattle.base.specs.Lists.{sum}
use Rattle.network.specs.Networks.{stations_of}
use Rattle.timetable.specs.Types.{Edit, Network, Answer, Tally}
use Rattle.timetable.specs.Refusals.{call_refusal}
use Rattle.timetable.specs.Machine.{Timetable, meaning, added_by}

unfoldable pub zero_tally : Tally
zero_tally = record { accepted = 0; refused = 0; added = 0; removed = 0 }

-- "5 .. a tally field above 1,000,000"
unfoldable pub overfull : Tally → Bool
overfull y = (ltb 1000000 y.accepted || ltb 1000000 y.refused) || (ltb 1000000 y.added || ltb 1000000 y.removed)

-- "3 for over 16 removed, or any by a refusal"
unfoldable pub unlikely : Answer → Bool
unlikely a = ltb 16 a.removed || (not (eqb a.refusal 0) && ltb 0 a.removed)

unfoldable pub raise_refusal : Tally → Answer → ℕ
raise_refusal y a = call_refusal (not (overfull y)) (3 if unlikely a else 0) true 0

-- "each edit raises: accepted, refused, added, removed, the last two counting visits"; "an edit refused with 5 leaves
-- it"
unfoldable pub raised : Tally → Edit → Answer → Tally
raised y e a =
    if eqb a.refusal 0 then record { accepted = y.accepted + 1; refused = y.refused; added = y.added + added_by (meaning e); removed = y.removed + a.removed }
    else if eqb a.refusal 5 then y
    else record { accepted = y.accepted; refused = y.refused + 1; added = y.added; removed = y.removed }

-- a refused raise leaves the tally as it was
unfoldable pub raise : Tally → Edit → Answer → Tally
raise y e a = if eqb (raise_refusal y a) 0 then raised y e a else y

-- the tally after a list of edits and their answers
unfoldable pub raise_all : Tally → List Edit → List Answer → Tally
raise_all y [] [] = y
raise_all y [] (a ∷ as') = y
raise_all y (e ∷ es) [] = y
raise_all y (e ∷ es) (a ∷ as') = raise_all (raise y e a) es as'

-- every edit of the list is counted: no raise is refused and no answer is 5
unfoldable pub counts_in_full : Tally → List Edit → List Answer → Bool
counts_in_full y [] [] = true
counts_in_full y [] (a ∷ as') = false
counts_in_full y (e ∷ es) [] = false
counts_in_full y (e ∷ es) (a ∷ as') = (eqb (raise_refusal y a) 0 && not (eqb a.refusal 5)) && counts_in_full (raise y e a) es as'

-- counts over a timetable

unfoldable pub visit_count : Network → Timetable → ℕ
visit_count n m = sum (λ s. length (m s).visits) (stations_of n)

unfoldable pub relation_count : Network → Timetable → ℕ
relation_count n m = sum (λ s. length (m s).relations) (stations_of n)

-- The key ring of this module: `unfolding opened` opens every definition above.
unfoldable pub opened : Unit {0}
unfolding zero_tally overfull unlikely raise_refusal raised raise raise_all counts_in_full visit_count relation_count
opened = tt
