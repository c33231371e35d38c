-- `builder::Lister::list_against` meets its contract. The loop's invariant: what is left to put is t with the trains
-- from index i on. Assumes nothing.
use Rattle.std.proofs.Common.{◌+◌, ◌*◌, ◌≤◌, drop}
use Rattle.page.specs.between.Changes.{table_in}
use Rattle.visits.specs.between.Entries.{entry_of}
use Rattle.builder.specs.between.Builder.{against, visit_most}
use Rattle.builder.specs.between.Kinds.{rule_number}
use Rattle.builder.proofs.FindingsPut.{Left}
use Rattle.builder.proofs.Lister.list_against.Given as goal

abbrev pub invariant-loop-i : goal.invariant-loop-i
invariant-loop-i l =
    let left = against l.self.n.now (table_in l.self.here.now) l.self.s (rule_number l.rule) (entry_of l.t) in
    (l.to ≤ l.at + visit_most) × (l.to ≤ l.at + 4 * l.i) × Left l.at (left (drop l.from (table_in l.there).visits)) l.initial.out l.to (left (drop l.i (table_in l.there).visits)) l.out
