-- Parts of the rules of timetable/specs/Rules.antt, as the functions on a page's table test them. Assumes nothing.
use Rattle.std.specs.Prelude.{Bool, not, ◌&&◌, ◌||◌, List}
use Rattle.base.specs.Lists.{keep, is}
use Rattle.railway.specs.Relations.{present}
use Rattle.network.specs.Networks.{line_row}
use Rattle.timetable.specs.Tables.{Entry, Table, visit_of}
use Rattle.timetable.specs.Rules.{both_visit, ahead, crowded, others, arrival_of}
use Rattle.rules.specs.between.Parts.{is_towards, meets}
use Rattle.page_rules.specs.Types.{Station, Train, Outward, Visit, Network}

-- rule 4

-- a place of a relation and two of them: a place that holds no train asks nothing
unfoldable pub one_met : (Visit → Bool) → Table → Train → Bool
one_met f tab t = not (present t) || is f (visit_of t tab)

unfoldable pub two_met : (Visit → Visit → Bool) → Table → Train → Train → Bool
two_met f tab t u = not (present t) || (not (present u) || both_visit f tab t u)

-- rule 6: the visits of other trains that are ahead of t, which leaves by o
unfoldable pub leaders : Train → Visit → Outward → List Entry → List Visit
leaders t v o es = keep (ahead v o) (others t es)

unfoldable pub crowds : Network → Train → Visit → Outward → List Entry → Bool
crowds n t v o es = is (λ r. crowded r v o (leaders t v o es)) (line_row n o.line)

-- rule 10: u leaves by q on t's line towards s, and they meet; t leaves by o
unfoldable pub towards : Table → Station → Visit → Outward → Entry → Outward → Bool
towards here s v o u q = is_towards s o q && meets (arrival_of here o.station u q) v o u.visit

-- The key ring of this module: `unfolding opened` opens every definition above.
unfoldable pub opened : Unit {0}
unfolding one_met two_met leaders crowds towards
opened = tt
