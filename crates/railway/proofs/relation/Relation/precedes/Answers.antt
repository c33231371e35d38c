-- `railway::relation::Relation::precedes` meets its contract: std's order of lists of numbers is `below`. Assumes
-- nothing.
use Rattle.std.proofs.Common.{◌∙◌}
use Rattle.base.proofs.Orders.{below_lists}
use Rattle.railway.specs.Relations.{precedes}
use Rattle.railway.proofs.relation.Relation.precedes.Goals as goal

pub returns : goal.returns
unfolding precedes
returns c = rw (← c.key.ensures, ← c.key-2.ensures) (c.lt.ensures ∙ below_lists c.key.result c.key-2.result)
