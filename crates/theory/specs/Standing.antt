-- What a standing train adds to the findings. Document 02, W2: "a standing train holds its track"; "The other cases of
-- rule 2 remain." The lists as they were have rule 2 as document 01 has it; here stands that each finding is in a list
-- as often as it was, and as often again as W2's case alone finds it. The proof is in proofs/StandingAlone; nothing
-- here is proved. The letters are those of Statements. Assumes nothing.
use Rattle.std.specs.Prelude.{ℕ, ◌+◌, Bool, not, ◌&&◌, ◌||◌, ◌≡◌, take, drop}
use mathlib.Core.List.{List, ◌∷◌, ◌++◌, map, flat_map}
use Rattle.base.specs.Lists.{count}
use Rattle.railway.specs.Ranges.{same_track}
use Rattle.railway.specs.declared.visit.Visit.{Visit}
use Rattle.network.specs.Networks.{stations_of}
use Rattle.timetable.specs.Tables.{Table}
use Rattle.timetable.specs.Machine.{Timetable}
use Rattle.timetable.specs.Groups.{Grouping}
use Rattle.timetable.specs.Rules.{both_too_soon, stands_for, breaks_2}
use Rattle.timetable.specs.Findings.{Spanning, Rule, of_two, by_two, rules, found_by_all, picked, findings, inside, group_findings, between, pair_findings}
use Rattle.theory.specs.Types.{Station, Network, Finding}

-- rule 2 as document 01 has it: "t < u, same track, both: .."
unfoldable pub broke_2 : Visit → Visit → Bool
broke_2 v w = same_track v.track w.track && both_too_soon v w

-- W2: "for two trains on one track, if t, either of them, has arrived .."
unfoldable pub holds_track : Visit → Visit → Bool
holds_track v w = same_track v.track w.track && (stands_for v w || stands_for w v)

-- W2's case where the old rule finds nothing
unfoldable pub newly_breaks_2 : Visit → Visit → Bool
newly_breaks_2 v w = not (broke_2 v w) && holds_track v w

-- the rules as they were, and what they found at all stations
unfoldable pub rules_before : Network → Station → Table → List Rule
rules_before n s here = take 1 (rules n s here) ++ (of_two broke_2 ∷ drop 2 (rules n s here))

unfoldable pub found_before : Network → Timetable → List Spanning
found_before n m = flat_map (λ s. found_by_all m s (m s) 1 (rules_before n s (m s))) (stations_of n)

-- what rule 2 finds in addition
unfoldable pub found_anew : Network → Timetable → List Spanning
found_anew n m = flat_map (λ s. by_two 2 newly_breaks_2 s (m s).visits) (stations_of n)

pub record StandingAlone (n : Network) (γ : Grouping) (m : Timetable) : Type 0 where
  -- of two visits: what rule 2 found, or W2's case
  pub of_two_visits : (v w : Visit) → breaks_2 v w ≡ (broke_2 v w || holds_track v w)
  -- of the lists, by any test of a finding: as many as before, and those found anew
  pub whole_more : (q : Finding → Bool) → count q (findings n m) ≡ count q (map (λ x. x.found) (found_before n m)) + count q (map (λ x. x.found) (found_anew n m))
  pub group_more : (q : Finding → Bool) (g : ℕ)
      → count q (group_findings n γ m g) ≡ count q (picked (inside γ g) (found_before n m)) + count q (picked (inside γ g) (found_anew n m))
  -- rule 2 is in no pair's list
  pub pair_as_before : (g h : ℕ) → ¬ (g ≡ h) → pair_findings n γ m g h ≡ picked (between γ g h) (found_before n m)

-- of every network and timetable, whole or not, and every grouping
abbrev pub OnlyStanding : Type 0
OnlyStanding = (n : Network) (γ : Grouping) (m : Timetable) → StandingAlone n γ m

-- The key ring of this module: `unfolding opened` opens every definition above.
unfoldable pub opened : Unit {0}
unfolding flat_map broke_2 holds_track newly_breaks_2 rules_before found_before found_anew
opened = tt
