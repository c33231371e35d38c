-- What an edit is refused with by the pages of its two stations, whatever their bytes. On good pages it is the refusal
-- of the central machine (machine/proofs/PageSteps.antt). Assumes nothing.
use Rattle.std.specs.Prelude.{ℕ, Bool, not, ◌&&◌, List}
use Rattle.base.specs.Choice.{◌if◌else◌}
use Rattle.base.specs.Lists.{is}
use Rattle.timetable.specs.Visits.{lacks_in, lacks_out, first_stands, last_stands}
use Rattle.timetable.specs.Tables.{visit_of, has_visit}
use Rattle.timetable.specs.Machine.{Meaning, local, throughout, room}
use Rattle.page.specs.between.Changes.{table_in}
use Rattle.edit_refusals.specs.Types.{End, Train, Visit, Extension, Deletion, Network}

-- 8 to 12 or 0, by what the two pages hold
unfoldable pub refuses_on : Network → Meaning → List ℕ → List ℕ → ℕ
refuses_on n (local a) here there = a.refuses n (table_in here) (table_in there)
refuses_on n (throughout t) here there = 0

-- 9 where the page has no visit of the train: edits 7 and 8
unfoldable pub missing_visit : Train → List ℕ → ℕ
missing_visit t page = 9 if not (has_visit t (table_in page)) else 0

-- edits 2 and 3: the visit at p has no link there yet
unfoldable pub lacks_link : End → Visit → Bool
lacks_link End.First v = lacks_in v
lacks_link End.Last v = lacks_out v

unfoldable pub extend_refusal : Network → Extension → End → List ℕ → List ℕ → ℕ
extend_refusal n x end here there =
    8 if has_visit x.plan.train (table_in here)
    else 9 if not (has_visit x.plan.train (table_in there))
    else 10 if not (is (lacks_link end) (visit_of x.plan.train (table_in there)))
    else room n x.plan.station (table_in here)

-- edits 4 and 5: the visits at s and p are the train's first two, or its last two
unfoldable pub end_stands : Deletion → End → Visit → Visit → Bool
end_stands d End.First v w = first_stands d.station d.other v w
end_stands d End.Last v w = last_stands d.station d.other v w

unfoldable pub delete_refusal : Deletion → End → List ℕ → List ℕ → ℕ
delete_refusal d end here there =
    9 if not (has_visit d.train (table_in here) && has_visit d.train (table_in there))
    else 10 if not (is (λ v. is (end_stands d end v) (visit_of d.train (table_in there))) (visit_of d.train (table_in here)))
    else 0

-- The key ring of this module: `unfolding opened` opens every definition above.
unfoldable pub opened : Unit {0}
unfolding refuses_on missing_visit lacks_link extend_refusal end_stands delete_refusal
opened = tt
