-- The rules that the builder goes through, by their numbers. Assumes nothing.
use Rattle.std.specs.Prelude.{ℕ, zero, suc, ◌+◌}
use mathlib.Core.List.{List, [], ◌∷◌, flat_map}
use Rattle.timetable.specs.Tables.{Table}
use Rattle.timetable.specs.Machine.{Timetable}
use Rattle.builder.specs.Types.{Station, Network}
use Rattle.builder.specs.declared.kinds.Rule.{Rule}
use Rattle.scope.specs.declared.Scope.{Scope}
use Rattle.builder.specs.between.Builder.{rule_numbers}

abbrev pub rule_number : Rule → ℕ
rule_number Rule.Backwards = 1
rule_number Rule.TrackTaken = 2
rule_number Rule.Headway = 3
rule_number Rule.Unmet = 4
rule_number Rule.TooFast = 5
rule_number Rule.LineFull = 6
rule_number Rule.OutUnanswered = 7
rule_number Rule.InUnanswered = 8
rule_number Rule.FarArrival = 9
rule_number Rule.Opposed = 10
rule_number Rule.Closed = 11

-- as many numbers, from one on
unfoldable pub counting : ℕ → ℕ → List ℕ
counting k zero = []
counting k (suc left) = k ∷ counting (k + 1) left

-- some rules at a station, one behind the other
abbrev pub each_rule : Network → Scope → Timetable → Table → Station → List Rule → List ℕ
each_rule n scope m here s rules = flat_map (λ r. rule_numbers n scope m here s (rule_number r)) rules
