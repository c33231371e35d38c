-- `network::Network::line_row` meets its contract: what `find` gives of the rows in use. Assumes nothing.
use Rattle.std.proofs.Common.{rules, tests, ◌∙◌, eqb}
use Rattle.std.proofs.lemmas.Iterator.{YieldsList-from_slice}
use Rattle.std.proofs.lemmas.Iterator.Search.{find_from_yields_List}
use Rattle.base.specs.Lists.{first}
use Rattle.network.specs.Networks.{line_row, line_rows}
use Rattle.network.specs.Types.{LineRow}
use Rattle.network.proofs.RowsInUse.{option_copied_map}
use Rattle.network.proofs.Network.line_row.Goals as goal

pub returns : goal.returns
unfolding line_row first
returns c =
    c.copied.ensures ∙ option_copied_map c.find.result
    ∙ find_from_yields_List (λ (r : LineRow). eqb r.line.0 c.args.l.0) _ _ c.find.result c.find.ensures.ran
    (YieldsList-from_slice (line_rows c.args.self.now) (c.iter.ensures.rest ∙ c.line_rows.ensures)) (λ x b q k. search (rules, tests))
