-- Which stations and groups an edit names, and timetables divided by groups of stations: document 01, "Sheets and
-- division", for any grouping. Areas are one use of it: the grouping `area_of n`. Assumes nothing.
use Rattle.std.specs.Prelude.{ℕ, Bool, ◌&&◌, ◌||◌, List, [], ◌∷◌, ltb, eqb}
use Rattle.std.specs.Prelude.{if◌then◌else◌}
use Rattle.base.specs.Lists.{any}
use Rattle.railway.specs.Ranges.{same_station}
use Rattle.network.specs.Networks.{stations_of, listed, area_of}
use Rattle.timetable.specs.Types.{Station, Network, Edit, Answer}
use Rattle.timetable.specs.Tables.{empty}
use Rattle.timetable.specs.Machine.{Timetable, Meaning, local, throughout, meaning, known, sound, answer, after}

-- the group of each station, 0 where it is in none
abbrev pub Grouping : Type 0
Grouping = Station → ℕ

abbrev pub areas : Network → Grouping
areas n = area_of n

-- "area 1..6": their numbers
abbrev pub six : List ℕ
six = 1 ∷ 2 ∷ 3 ∷ 4 ∷ 5 ∷ 6 ∷ []

-- what an edit names

unfoldable pub reaches : Network → Meaning → Station → Bool
reaches n (local a) k = known n a && (same_station k a.home || same_station k a.away)
reaches n (throughout t) k = listed n k

-- the stations of "An edit names the areas of its stations s and p; edit 11 names every area with a station; one
-- refused with 3 or 7 names none."; of a report from the future, document 02, W7: "such an edit names no area"
unfoldable pub names : Network → Edit → Station → Bool
names n e k = sound e && reaches n (meaning e) k

-- the refusals of an edit that names none
abbrev pub naming_none : ℕ → Bool
naming_none r = eqb r 3 || (eqb r 7 || eqb r 15)

-- the groups of those stations
unfoldable pub names_group : Network → Grouping → Edit → ℕ → Bool
names_group n γ e g = any (λ s. eqb g (γ s) && names n e s) (stations_of n)

-- division

-- the station is in the group, which is none of the numbers that stand for no group
unfoldable pub in_group : Grouping → ℕ → Station → Bool
in_group γ g k = ltb 0 g && eqb g (γ k)

-- "A division is .. six sheets by area": a timetable for each group's number
abbrev pub Divided : Type 0
Divided = ℕ → Timetable

-- "Dividing puts each station's entries in its area's sheet"
unfoldable pub divide : Grouping → Timetable → Divided
divide γ m = λ g k. if in_group γ g k then m k else empty

-- "merging collects them"
unfoldable pub merge : Grouping → Divided → Timetable
merge γ d = λ k. if ltb 0 (γ k) then d (γ k) k else empty

-- the groups that pass the test as one timetable, every other station bare
unfoldable pub gather : Grouping → (ℕ → Bool) → Divided → Timetable
gather γ p d = λ k. if p (γ k) then merge γ d k else empty

-- an edit on a division: the central machine on the named groups. "It reads and changes only the sheets of those
-- areas."
unfoldable pub divided_answer : Network → Grouping → Edit → Divided → Answer
divided_answer n γ e d = answer n e (gather γ (names_group n γ e) d)

unfoldable pub divided_after : Network → Grouping → Edit → Divided → Divided
divided_after n γ e d = λ g. if names_group n γ e g then divide γ (after n e (gather γ (names_group n γ e) d)) g else d g

-- The key ring of this module: `unfolding opened` opens every definition above.
unfoldable pub opened : Unit {0}
unfolding reaches names names_group in_group divide merge gather divided_answer divided_after
opened = tt
