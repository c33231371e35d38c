-- What a look-up's answer says of the visit that was looked for. Assumes nothing.
use mathlib.Core.Path.{◌≡◌, sym, ◌∙◌}
use mathlib.Core.Bool.{true, false}
use Rattle.std.specs.Prelude.{Option, Some, None}
use Rattle.railway.specs.declared.sorts.Train.{Train}
use Rattle.railway.specs.declared.visit.Visit.{Visit}
use Rattle.timetable.specs.Tables.{Table, visit_of, has_visit}

pub found_some : (o r : Option Visit) (v : Visit) → r ≡ o → r ≡ Some v → o ≡ Some v
found_some o r v p q = sym p ∙ q

pub found_none : (o r : Option Visit) → r ≡ o → r ≡ None → o ≡ None
found_none o r p q = sym p ∙ q

-- so whether the train visits
pub there_some : (t : Train) (tab : Table) (v : Visit) → visit_of t tab ≡ Some v → has_visit t tab ≡ true
unfolding has_visit
there_some t tab v e = rw e

pub there_none : (t : Train) (tab : Table) → visit_of t tab ≡ None → has_visit t tab ≡ false
unfolding has_visit
there_none t tab e = rw e
