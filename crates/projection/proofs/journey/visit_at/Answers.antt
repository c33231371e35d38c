-- `projection::journey::visit_at` meets its contract: the page of the station holds its table. Assumes nothing.
use Prim.Native.Nat.{ℕ}
use mathlib.Core.Path.{ap, ◌∙◌}
use mathlib.Core.List.{List}
use Rattle.timetable.specs.Tables.{Table, visit_of}
use Rattle.page.specs.between.Changes.{table_in}
use borrow.Author.Rules.{rules}
use Rattle.sheet.proofs.StationLaws.{station_table}
use Rattle.projection.proofs.journey.visit_at.Goals as goal

pub returns : goal.returns
returns c =
    let s = c.args in
    c.visit_of.ensures
    ∙ ap (λ (m : Table). visit_of s.t m) (ap (λ (b : List ℕ). table_in b) c.page_of.ensures ∙ station_table s.sheet.now s.s (search rules))
