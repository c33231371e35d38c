-- What an edit leaves of the pages of its two stations, whatever their bytes. On good pages these are the pages of the
-- central machine's tables (machine/proofs/PageSteps.antt). Assumes nothing.
use Rattle.std.specs.Prelude.{ℕ, List}
use Rattle.std.specs.Prelude.{Option, None, Some}
use Rattle.timetable.specs.Visits.{with_in, with_out, planned, amended, arrived_at, departed_at, from, onward}
use Rattle.timetable.specs.Tables.{visit_of}
use Rattle.page.specs.between.Changes.{table_in, page_add_visit, page_write_visit, page_remove_visit, page_add_relation, page_remove_relation, page_lose_train}
use Rattle.edit_changes.specs.Types.{Train, Visit, InLink, OutLink, Edit, Place, Prepend, Append, DeleteFirst, DeleteLast, Amend}
use Rattle.edit_changes.specs.Types.{ReportArrival, ReportDeparture, AddRelation, RemoveRelation, DeleteTrain}

-- the train's visit changed on the page, if it is there
unfoldable pub page_changed : Train → (Visit → Visit) → Option Visit → List ℕ → List ℕ
page_changed t f None page = page
page_changed t f (Some v) page = page_write_visit t (f v) page

unfoldable pub page_change : Train → (Visit → Visit) → List ℕ → List ℕ
page_change t f page = page_changed t f (visit_of t (table_in page)) page

-- the train taken out of the page
unfoldable pub page_without : Train → List ℕ → List ℕ
page_without t page = page_lose_train t (page_remove_visit t page)

-- what an edit makes of the page of s
unfoldable pub here_page : Edit → List ℕ → List ℕ
here_page (Place p) page = page_add_visit p.train (planned p) page
here_page (Prepend x) page = page_add_visit x.plan.train (with_out (onward x.other x.line x.run) (planned x.plan)) page
here_page (Append x) page = page_add_visit x.plan.train (with_in (from x.other x.line) (planned x.plan)) page
here_page (DeleteFirst d) page = page_without d.train page
here_page (DeleteLast d) page = page_without d.train page
here_page (Amend p) page = page_change p.train (amended p) page
here_page (ReportArrival r) page = page_change r.train (arrived_at r.time) page
here_page (ReportDeparture r) page = page_change r.train (departed_at r.time) page
here_page (AddRelation r) page = page_add_relation r.relation page
here_page (RemoveRelation r) page = page_remove_relation r.relation page
here_page (DeleteTrain c) page = page_without c.train page

-- what an edit makes of the page of p, where it has one
unfoldable pub there_page : Edit → List ℕ → List ℕ
there_page (Place p) page = page
there_page (Prepend x) page = page_change x.plan.train (with_in (from x.plan.station x.line)) page
there_page (Append x) page = page_change x.plan.train (with_out (onward x.plan.station x.line x.run)) page
there_page (DeleteFirst d) page = page_change d.train (with_in InLink.Nothing) page
there_page (DeleteLast d) page = page_change d.train (with_out OutLink.Nothing) page
there_page (Amend p) page = page
there_page (ReportArrival r) page = page
there_page (ReportDeparture r) page = page
there_page (AddRelation r) page = page
there_page (RemoveRelation r) page = page
there_page (DeleteTrain c) page = page

-- The key ring of this module: `unfolding opened` opens every definition above.
unfoldable pub opened : Unit {0}
unfolding page_changed page_change page_without here_page there_page
opened = tt
