-- The lists of findings: of a whole timetable, of a group of stations (an area), and of two groups. Document 01,
-- "Findings". Assumes nothing.
use Rattle.std.specs.Prelude.{ℕ, suc, ◌+◌, Bool, not, ◌&&◌, ◌||◌, eqb, leb}
use mathlib.Core.List.{List, [], ◌∷◌, ◌++◌, map, flat_map}
use Rattle.std.specs.Prelude.{if◌then◌else◌}
use Rattle.base.specs.Lists.{keep}
use Rattle.network.specs.Networks.{stations_of}
use Rattle.timetable.specs.Types.{Station, Inward, Outward, Visit, Relation, Network, Finding}
use Rattle.timetable.specs.Visits.{ins, outs}
use Rattle.timetable.specs.Tables.{Entry, Table}
use Rattle.timetable.specs.Machine.{Timetable}
use Rattle.timetable.specs.Groups.{Grouping, in_group, Divided, gather}
use Rattle.timetable.specs.Rules.{breaks_1, breaks_2, breaks_3, met, breaks_5, breaks_6, out_answered, in_answered, breaks_9, breaks_10, breaks_11, out_line}

-- "Each is four numbers: station, rule, first, second (0 if unused)"
unfoldable pub finding : Station → ℕ → ℕ → ℕ → Finding
finding s rule a b = record { station = s; rule = rule; first = a; second = b }

abbrev pub numbers : Finding → List ℕ
numbers f = f.station.0 ∷ f.rule ∷ f.first ∷ f.second ∷ []

-- the numbers of a list, one finding behind the other
unfoldable pub numbers_of : List Finding → List ℕ
numbers_of fs = flat_map numbers fs

-- and back: the findings of numbers, four each
unfoldable pub findings_in : List ℕ → List Finding
findings_in [] = []
findings_in (s ∷ []) = []
findings_in (s ∷ rule ∷ []) = []
findings_in (s ∷ rule ∷ a ∷ []) = []
findings_in (s ∷ rule ∷ a ∷ b ∷ xs) = finding (record { 0 = s }) rule a b ∷ findings_in xs

-- a finding with the far station that it speaks of; s itself in rules 1 to 6 and 11
pub record Spanning : Type 0 where
  pub far : Station
  pub found : Finding

-- rules 7 to 10: of a far station too
unfoldable pub is_far : ℕ → Bool
is_far rule = leb 7 rule && leb rule 10

-- the finding where the rule is broken
unfoldable pub one : Bool → Station → Finding → List Spanning
one b p f = if b then record { far = p; found = f } ∷ [] else []

-- for each visit, with the finding's second number
unfoldable pub by_one : ℕ → (Entry → Bool) → (Entry → ℕ) → Station → List Entry → List Spanning
by_one rule f second s es = flat_map (λ t. one (f t) s (finding s rule t.train.0 (second t))) es

-- for each t < u, the visits being in the order of their trains
unfoldable pub by_two : ℕ → (Visit → Visit → Bool) → Station → List Entry → List Spanning
by_two rule f s [] = []
by_two rule f s (t ∷ us) =
    flat_map (λ u. one (f t.visit u.visit) s (finding s rule t.train.0 u.train.0)) us ++ by_two rule f s us

-- "in rule 4 the rank of the relation from 1": i is the rank of the first
unfoldable pub by_rank : ℕ → (Relation → Bool) → Station → ℕ → List Relation → List Spanning
by_rank rule f s i [] = []
by_rank rule f s i (r ∷ rs) = one (f r) s (finding s rule i 0) ++ by_rank rule f s (i + 1) rs

-- for each visit with an out-link, or an in-link, by the table at its far end
unfoldable pub by_out : (Table → Entry → Outward → List Spanning) → Timetable → List Entry → List Spanning
by_out f m es = flat_map (λ t. flat_map (λ o. f (m o.station) t o) (outs t.visit)) es

unfoldable pub by_in : (Table → Entry → Inward → List Spanning) → Timetable → List Entry → List Spanning
by_in f m es = flat_map (λ t. flat_map (λ i. f (m i.station) t i) (ins t.visit)) es

-- what a rule goes through at a station, and when it finds
pub data Rule : Type 0 where
  -- one visit; the second number of its finding
  of_one : (Entry → Bool) → (Entry → ℕ) → Rule
  -- each two visits
  of_two : (Visit → Visit → Bool) → Rule
  -- a relation
  of_relation : (Relation → Bool) → Rule
  -- a visit and its out-link, or its in-link, by the table at the far end
  of_out : (Table → Entry → Outward → Bool) → Rule
  of_in : (Table → Entry → Inward → Bool) → Rule
  -- a visit, its out-link, and each visit at the far end
  of_facing : (Entry → Outward → Entry → Bool) → Rule

-- "(0 if unused)"
abbrev pub unused : Entry → ℕ
unused t = 0

-- THE RULES, from 1 on
unfoldable pub rules : Network → Station → Table → List Rule
rules n s here =
    of_one (λ t. breaks_1 t.visit) unused
    ∷ of_two breaks_2
    ∷ of_two (breaks_3 n.headway)
    ∷ of_relation (λ r. not (met here r))
    ∷ of_one (λ t. breaks_5 n t.train t.visit) unused
    ∷ of_one (breaks_6 n here.visits) unused
    ∷ of_out (λ there t o. not (out_answered s t.train o there))
    ∷ of_in (λ there t i. not (in_answered s t.train i there))
    ∷ of_out (λ there t o. breaks_9 s t o there)
    ∷ of_facing (breaks_10 n s here)
    ∷ of_one (λ t. breaks_11 n t.visit) (λ t. out_line t.visit.outward)
    ∷ []

-- what the rule with the number k finds at s
unfoldable pub found_by : Timetable → Station → Table → ℕ → Rule → List Spanning
found_by m s here k (of_one f second) = by_one k f second s here.visits
found_by m s here k (of_two f) = by_two k f s here.visits
found_by m s here k (of_relation f) = by_rank k f s 1 here.relations
found_by m s here k (of_out f) = by_out (λ there t o. one (f there t o) o.station (finding s k t.train.0 0)) m here.visits
found_by m s here k (of_in f) = by_in (λ there t i. one (f there t i) i.station (finding s k t.train.0 0)) m here.visits
found_by m s here k (of_facing f) =
    by_out (λ there t o. flat_map (λ u. one (f t o u) o.station (finding s k t.train.0 u.train.0)) there.visits) m here.visits

-- what some rules find, numbered from k on
unfoldable pub found_by_all : Timetable → Station → Table → ℕ → List Rule → List Spanning
found_by_all m s here k [] = []
found_by_all m s here k (r ∷ rs) = found_by m s here k r ++ found_by_all m s here (suc k) rs

unfoldable pub at_station : Network → Timetable → Station → Table → List Spanning
at_station n m s here = found_by_all m s here 1 (rules n s here)

-- all rules at all stations, with the far stations
unfoldable pub spanning : Network → Timetable → List Spanning
spanning n m = flat_map (λ s. at_station n m s (m s)) (stations_of n)

unfoldable pub picked : (Spanning → Bool) → List Spanning → List Finding
picked f xs = map (λ x. x.found) (keep f xs)

-- "A whole timetable's findings: all rules at all stations."
unfoldable pub findings : Network → Timetable → List Finding
findings n m = map (λ x. x.found) (spanning n m)

-- "An area's findings, at its stations: rules 1 to 6, and 7 to 10 where the far station is its own too."; W1: "Rule 11
-- reads one station, so it belongs to the area lists"
unfoldable pub inside : Grouping → ℕ → Spanning → Bool
inside γ g x = in_group γ g x.found.station && in_group γ g x.far

unfoldable pub group_findings : Network → Grouping → Timetable → ℕ → List Finding
group_findings n γ m g = picked (inside γ g) (spanning n m)

-- "A pair's (unordered): 7 to 10 across the two, which differ"
unfoldable pub between : Grouping → ℕ → ℕ → Spanning → Bool
between γ g h x =
    (in_group γ g x.found.station && in_group γ h x.far) || (in_group γ h x.found.station && in_group γ g x.far)

unfoldable pub pair_findings : Network → Grouping → Timetable → ℕ → ℕ → List Finding
pair_findings n γ m g h = picked (between γ g h) (spanning n m)

-- Who forms a list has only the parts it speaks of: a group's list is formed from its own part alone, the list of two
-- groups from their two parts alone, every other station bare.
unfoldable pub own_list : Network → Grouping → Divided → ℕ → List Finding
own_list n γ d g = group_findings n γ (d g) g

unfoldable pub pair_list : Network → Grouping → Divided → ℕ × ℕ → List Finding
pair_list n γ d gh = pair_findings n γ (gather γ (λ x. eqb x gh.0 || eqb x gh.1) d) gh.0 gh.1

-- The key ring of this module: `unfolding opened` opens every definition above.
unfoldable pub opened : Unit {0}
unfolding flat_map finding numbers_of findings_in is_far one by_one by_two by_rank by_out by_in rules found_by found_by_all at_station spanning picked findings inside group_findings
    between pair_findings own_list pair_list
opened = tt
