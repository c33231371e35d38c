-- Parts of the rules of timetable/specs/Rules.antt, as the functions on visits test them. Assumes nothing.
use Rattle.std.specs.Prelude.{ℕ, Bool, not, ◌&&◌, ltb, eqb}
use Rattle.std.specs.Prelude.{if◌then◌else◌}
use Rattle.base.specs.Lists.{is}
use Rattle.railway.specs.Ranges.{same_station, same_train, same_line}
use Rattle.network.specs.Networks.{line_row, least_time}
use Rattle.timetable.specs.Visits.{arr, dep, comes_from}
use Rattle.timetable.specs.Tables.{Entry}
use Rattle.timetable.specs.Rules.{due, ahead, caught}
use Rattle.rules.specs.Types.{Station, Train, Outward, Visit, Network}

abbrev pub entry : Train → Visit → Entry
entry t v = record { train = t; visit = v }

-- rule 5: the running time is below the least of the link's line and the train
unfoldable pub runs_below : Network → Train → Outward → Bool
runs_below n t o = is (λ r. ltb o.run (least_time r t)) (line_row n o.line)

-- rule 6: an entry of another train that is ahead of t, which leaves by o; and one that is caught
unfoldable pub leads : Train → Visit → Outward → Entry → Bool
leads t v o e = not (same_train e.train t) && ahead v o e.visit

unfoldable pub catches : Train → Visit → Outward → Entry → Bool
catches t v o e = leads t v o e && caught v o e.visit

-- rule 10: the line is of kind 3
unfoldable pub kind_three : Network → Outward → Bool
kind_three n o = is (λ r. eqb r.kind 3) (line_row n o.line)

-- u leaves by q on t's line towards s
unfoldable pub is_towards : Station → Outward → Outward → Bool
is_towards s o q = same_line q.line o.line && same_station q.station s

-- u, which arrives at a, neither arrives before t departs nor departs after t's departure + run
unfoldable pub meets : ℕ → Visit → Outward → Visit → Bool
meets a v o w = not (ltb a (dep v)) && not (ltb (due v o) (dep w))

-- u's arrival: that of its visit x at s if that answers the link from p, else departure + run
unfoldable pub arrival_by : Visit → Station → Visit → Outward → ℕ
arrival_by x p w q = if comes_from p q.line x then arr x else due w q

-- The key ring of this module: `unfolding opened` opens every definition above.
unfoldable pub opened : Unit {0}
unfolding runs_below leads catches kind_three is_towards meets arrival_by
opened = tt
