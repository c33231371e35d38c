-- What an edit makes stale in a list of findings, and the list's update. Document 02, W5: "After an accepted edit it is
-- enough to redo the findings at the stations that the edit names, and rules 7 to 10 at stations joined to those by a
-- line." Which stations an edit names stands in Groups (`names`). Assumes nothing.
use Rattle.std.specs.Prelude.{ℕ, ◌%◌, Bool, true, false, not, ◌&&◌, ◌||◌, List, [], ◌∷◌, ◌++◌, eqb, length}
use Rattle.std.specs.Prelude.{if◌then◌else◌}
use Rattle.base.specs.Lists.{any, keep, each_two, below}
use Rattle.railway.specs.Ranges.{same_station}
use Rattle.network.specs.Networks.{line_rows, stations_of}
use Rattle.timetable.specs.Types.{Station, LineRow, Network, Edit, Finding}
use Rattle.timetable.specs.Machine.{Meaning, local, throughout, meaning}
use Rattle.timetable.specs.Groups.{names}
use Rattle.timetable.specs.Findings.{numbers, numbers_of, findings_in, is_far}

-- "joined .. by a line": its ends, either way, whatever its kind and its closures
unfoldable pub row_joins : LineRow → Station → Station → Bool
row_joins r a b = (same_station r.first a && same_station r.second b) || (same_station r.second a && same_station r.first b)

unfoldable pub joined : Network → Station → Station → Bool
joined n a b = any (λ r. row_joins r a b) (line_rows n)

-- joined to a station that the edit names
unfoldable pub beside : Network → Edit → Station → Bool
beside n e s = any (λ k. names n e k && joined n k s) (stations_of n)

-- "with delete train redoing all"
abbrev pub redoes_all : Meaning → Bool
redoes_all (local a) = false
redoes_all (throughout t) = true

-- what is found by a rule at s is redone; what else a list has there stays
unfoldable pub redone_at : Network → Edit → Station → ℕ → Bool
redone_at n e s rule = redoes_all (meaning e) || (names n e s || (is_far rule && beside n e s))

unfoldable pub stale : Network → Edit → Finding → Bool
stale n e f = redone_at n e f.station f.rule

-- the order of lists: by the four numbers
abbrev pub before : Finding → Finding → Bool
before f g = below (numbers f) (numbers g)

-- of a list, those at its start that are before f, and the others
unfoldable pub leading : Finding → List Finding → List Finding
leading f [] = []
leading f (g ∷ gs) = if before g f then g ∷ leading f gs else []

unfoldable pub trailing : Finding → List Finding → List Finding
trailing f [] = []
trailing f (g ∷ gs) = if before g f then trailing f gs else (g ∷ gs)

-- two lists as one, rising where both rise: each of the first list behind those of the second that are before it
unfoldable pub together : List Finding → List Finding → List Finding
together [] gs = gs
together (f ∷ fs) gs = leading f gs ++ (f ∷ together fs (trailing f gs))

-- THE UPDATE of a list, `new` being what is found after the edit: "that list's entries elsewhere together with the
-- redone ones"
unfoldable pub updated : Network → Edit → List Finding → List Finding → List Finding
updated n e old new = together (keep (λ f. not (stale n e f)) old) (keep (stale n e) new)

-- a list that is lent as numbers, four a finding

-- "3 unless it rises", strictly, in whole findings
unfoldable pub list_rises : List ℕ → Bool
list_rises xs = eqb (length xs % 4) 0 && each_two before (findings_in xs)

unfoldable pub updated_numbers : Network → Edit → List ℕ → List Finding → List ℕ
updated_numbers n e list new = numbers_of (updated n e (findings_in list) new)

-- The key ring of this module: `unfolding opened` opens every definition above.
unfoldable pub opened : Unit {0}
unfolding row_joins joined beside redone_at stale leading trailing together updated list_rises updated_numbers
opened = tt
