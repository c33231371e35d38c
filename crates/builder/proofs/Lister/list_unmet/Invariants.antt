-- `builder::Lister::list_unmet` meets its contract. The loop's invariant: what is left to put is the relations from
-- index i on. Assumes nothing.
use Rattle.std.proofs.Common.{◌+◌, ◌*◌, ◌≤◌, drop}
use Rattle.page.specs.between.Changes.{table_in}
use Rattle.builder.specs.between.Builder.{unmet_numbers}
use Rattle.builder.proofs.FindingsPut.{Left}
use Rattle.builder.proofs.Lister.list_unmet.Given as goal

abbrev pub invariant-loop-i : goal.invariant-loop-i
invariant-loop-i l =
    let here = table_in l.self.here.now in
    (l.to ≤ l.at + 4 * l.i) × Left l.at (unmet_numbers here l.self.s 1 here.relations) l.initial.out l.to (unmet_numbers here l.self.s (l.i + 1) (drop l.i here.relations)) l.out
