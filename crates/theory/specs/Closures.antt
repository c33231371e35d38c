-- What closures change of the findings. Document 02, W1: "Rule 11 reads one station, so it belongs to the area lists,
-- and demand 3 includes it." Demand 3 speaks of the lists of timetable Findings, which have rule 11 (Statements). Here
-- stands that rules 1 to 10 find what they found, whatever is closed. The proof is in proofs/ClosuresAlone; nothing
-- here is proved. The letters are those of Statements. Assumes nothing.
use Rattle.std.specs.Prelude.{ℕ, Bool, ◌≡◌, leb, take}
use mathlib.Core.List.{List, map, flat_map}
use Rattle.base.specs.Lists.{keep}
use Rattle.network.specs.Networks.{stations_of}
use Rattle.timetable.specs.Machine.{Timetable}
use Rattle.timetable.specs.Groups.{Grouping}
use Rattle.timetable.specs.Findings.{Spanning, rules, found_by_all, picked, findings, inside, group_findings, between, pair_findings}
use Rattle.theory.specs.Types.{Network, Finding}

-- what rules 1 to 10 find at all stations: the findings as they were before lines could be closed
unfoldable pub first_ten : Network → Timetable → List Spanning
first_ten n m = flat_map (λ s. found_by_all m s (m s) 1 (take 10 (rules n s (m s)))) (stations_of n)

-- the network with no line closed
unfoldable pub reopened : Network → Network
reopened n = record {
  stationcount = n.stationcount;
  stations = n.stations;
  headway = n.headway;
  linecount = n.linecount;
  lines = n.lines;
  closurecount = 0;
  closures = n.closures;
}

abbrev pub of_first_ten : Finding → Bool
of_first_ten f = leb f.rule 10

pub record ClosuresAlone (n : Network) (γ : Grouping) (m : Timetable) : Type 0 where
  -- the findings of rules 1 to 10 do not depend on closures
  pub same_ten : first_ten n m ≡ first_ten (reopened n) m
  -- and they are those of the lists: of the whole, of a group, and all of two groups'
  pub whole_ten : keep of_first_ten (findings n m) ≡ map (λ x. x.found) (first_ten n m)
  pub group_ten : (g : ℕ) → keep of_first_ten (group_findings n γ m g) ≡ picked (inside γ g) (first_ten n m)
  pub pair_ten : (g h : ℕ) → ¬ (g ≡ h) → pair_findings n γ m g h ≡ picked (between γ g h) (first_ten n m)
  -- a network without closures has just the findings that it had
  pub whole_had : n.closurecount ≡ 0 → findings n m ≡ map (λ x. x.found) (first_ten n m)
  pub group_had : n.closurecount ≡ 0 → (g : ℕ) → group_findings n γ m g ≡ picked (inside γ g) (first_ten n m)

-- of every network and timetable, whole or not, and every grouping
abbrev pub OnlyRule11 : Type 0
OnlyRule11 = (n : Network) (γ : Grouping) (m : Timetable) → ClosuresAlone n γ m

-- The key ring of this module: `unfolding opened` opens every definition above.
unfoldable pub opened : Unit {0}
unfolding flat_map first_ten reopened
opened = tt
