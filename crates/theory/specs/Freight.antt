-- A network whose lines have one least time for all trains finds what rule 5 found. Document 02, W3: "giving both times
-- the old number; such a network must yield the old findings." Rule 5 and the lists as they were stand here; the proof
-- is in proofs/FreightAlike; nothing here is proved. The letters are those of Statements. Assumes nothing.
use Rattle.std.specs.Prelude.{ℕ, Bool, ◌≡◌, T, ltb, take, drop}
use mathlib.Core.List.{List, ◌∷◌, ◌++◌, map, flat_map}
use Rattle.base.specs.Lists.{every, is}
use Rattle.railway.specs.declared.visit.Visit.{Visit}
use Rattle.network.specs.Networks.{line_rows, line_row, same_times, stations_of}
use Rattle.timetable.specs.Visits.{leaves}
use Rattle.timetable.specs.Tables.{Table}
use Rattle.timetable.specs.Machine.{Timetable}
use Rattle.timetable.specs.Groups.{Grouping}
use Rattle.timetable.specs.Findings.{Spanning, Rule, of_one, unused, rules, found_by_all, picked, findings, inside, group_findings, between, pair_findings}
use Rattle.theory.specs.Types.{Station, Network}

-- rule 5 as document 01 has it, the line's least time being the one that it had
unfoldable pub broke_5 : Network → Visit → Bool
broke_5 n = leaves (λ o. is (λ r. ltb o.run r.passenger) (line_row n o.line))

-- the rules as they were, and what they found at all stations
unfoldable pub rules_had : Network → Station → Table → List Rule
rules_had n s here = take 4 (rules n s here) ++ (of_one (λ t. broke_5 n t.visit) unused ∷ drop 5 (rules n s here))

unfoldable pub found_had : Network → Timetable → List Spanning
found_had n m = flat_map (λ s. found_by_all m s (m s) 1 (rules_had n s (m s))) (stations_of n)

pub record FoundAlike (n : Network) (γ : Grouping) (m : Timetable) : Type 0 where
  pub whole : findings n m ≡ map (λ x. x.found) (found_had n m)
  pub group : (g : ℕ) → group_findings n γ m g ≡ picked (inside γ g) (found_had n m)
  pub pair : (g h : ℕ) → pair_findings n γ m g h ≡ picked (between γ g h) (found_had n m)

-- of every network with one time a line and every timetable, whole or not, and every grouping
abbrev pub OneTimeAlike : Type 0
OneTimeAlike = (n : Network) → T (every same_times (line_rows n)) → (γ : Grouping) (m : Timetable) → FoundAlike n γ m

-- The key ring of this module: `unfolding opened` opens every definition above.
unfoldable pub opened : Unit {0}
unfolding flat_map broke_5 rules_had found_had
opened = tt
