-- `builder::list_redone` meets its contract. The loop's invariant: what is left to put is what is redone at the
-- stations from a row on. Assumes nothing.
use Rattle.std.proofs.Common.{◌*◌, ◌≤◌, drop}
use mathlib.Core.List.{flat_map}
use Rattle.rule_tests.specs.between.Tests.{held}
use Rattle.builder.specs.between.Builder.{redone_station, station_most}
use Rattle.builder.proofs.FindingsPut.{Left}
use Rattle.builder.proofs.list_redone.Given as goal

abbrev pub invariant-loop-row : goal.invariant-loop-row
invariant-loop-row l =
    let left = flat_map (λ r. redone_station l.n l.scope l.marks (held l.sheet) r.station) in
    (l.to ≤ station_most * l.row-index) × Left 0 (left l.rows) l.initial.out l.to (left (drop l.row-index l.rows)) l.out
