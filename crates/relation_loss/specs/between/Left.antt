-- What is left of a relation without a train, as the code has it. Assumes nothing.
use Rattle.std.specs.Prelude.{not, ◌&&◌}
use Rattle.std.specs.Prelude.{Option, Some}
use Rattle.std.specs.Prelude.{if◌then◌else◌}
use Rattle.railway.specs.Ranges.{same_train}
use Rattle.railway.specs.Relations.{present, used}
use Rattle.base.specs.Lists.{any, keep}
use Rattle.timetable.specs.Tables.{fewer}
use Rattle.relation_loss.specs.Types.{Train, Trains, Relation}

-- the trains of four places, one more place put before them: not where it holds no train, or the one that is taken out
unfoldable pub shifted : Train → Train → Trains → Trains
shifted t x ts = if present x && not (same_train t x) then record { a = x; b = ts.a; c = ts.b; d = ts.c } else ts

-- what is left of a connection or disconnection, by how it is made of its trains
unfoldable pub lose_group : (Trains → Relation) → Train → Trains → Option Relation
lose_group make t ts = if any (same_train t) (used ts) then fewer make (keep (λ u. not (same_train t u)) (used ts)) else Some (make ts)

-- The key ring of this module: `unfolding opened` opens every definition above.
unfoldable pub opened : Unit {0}
unfolding shifted lose_group
opened = tt
