-- Entries put into a sheet's bytes, one after the other, as `entered` puts them into a timetable: the first refused
-- entry is remembered, and later ones change nothing. proofs/SheetEntries.antt has that on the sheet of a timetable
-- this is `entered`. Assumes nothing.
use Rattle.std.specs.Prelude.{ℕ, ◌-◌, List, [], ◌∷◌, eqb, Result, Ok, Err, Option}
use Rattle.std.specs.Prelude.{if◌then◌else◌}
use Rattle.base.specs.RefusalNumbers.{number_of}
use Rattle.base.specs.declared.refusal.FileError.{FileError}
use Rattle.timetable.specs.Formats.{Format, field, Outcome, accepted, refused, Placed}
use Rattle.timetable.specs.Tables.{Table, has_relation}
use Rattle.timetable.specs.TimetableFile.{StationVisit, Entries, visits_format, relations_format, visit_refusal, relation_refusal}
use Rattle.page.specs.between.Changes.{table_in, page_add_visit, page_add_relation}
use Rattle.sheet.specs.Sheets.{decode_sheet}
use Rattle.sheet.specs.between.Frames.{change_frame}
use Rattle.timetable_entries.specs.Types.{Station, Visit, Relation, StationRelation, Network}
use Rattle.timetable.specs.declared.FileForm.{FileForm}
use Rattle.timetable.specs.declared.Fault.{Fault}
use Rattle.timetable_entries.specs.Answers.{fault_told}

-- what an entry is refused with at a station's table

unfoldable pub visit_refused : Network → Station → Visit → Table → ℕ
visit_refused n s v tab = visit_refusal n (record { station = s; train = record { 0 = 0 }; visit = v }) (λ k. tab)

unfoldable pub relation_refused : Network → Station → Table → ℕ
relation_refused n s tab = relation_refusal n (record { station = s; relation = Relation.Dependency 0 (record { arriver = record { 0 = 0 }; departer = record { 0 = 0 } }) }) (λ k. tab)

-- a relation put in its place; one that is there already stays one
unfoldable pub page_with_relation : Relation → List ℕ → List ℕ
page_with_relation q page = if has_relation q (table_in page) then page else page_add_relation q page

-- a sheet, and the first refused entry
pub record Progress : Type 0 where
  pub sheet : List ℕ
  pub fault : Fault

abbrev pub no_fault : Fault
no_fault = record { number = 0; place = 0 }

-- one entry that is refused with k, or with 0 and makes the sheet `later`
unfoldable pub step_with : ℕ → List ℕ → ℕ → Progress → Progress
step_with k later place g =
    if eqb g.fault.number 0
    then (if eqb k 0 then record { sheet = later; fault = g.fault } else record { sheet = g.sheet; fault = record { number = k; place = place } })
    else g

unfoldable pub visit_step : Network → Placed StationVisit → Progress → Progress
visit_step n p g =
    step_with (visit_refusal n p.entry (decode_sheet g.sheet))
    (change_frame (p.entry.station.0 - 1) (page_add_visit p.entry.train p.entry.visit) g.sheet) p.place g

unfoldable pub relation_step : Network → Placed StationRelation → Progress → Progress
relation_step n p g =
    step_with (relation_refusal n p.entry (decode_sheet g.sheet))
    (change_frame (p.entry.station.0 - 1) (page_with_relation p.entry.relation) g.sheet) p.place g

-- entries, first to last
unfoldable pub through : {A : Type 0} → (Placed A → Progress → Progress) → List (Placed A) → Progress → Progress
through step [] g = g
through step (p ∷ ps) g = through step ps (step p g)

-- what reading entries answers: the first refused one and the place behind them all, or a refusal of the file
abbrev pub entries_told : Result (Option FileError × ℕ) FileError → Outcome Fault
entries_told (Ok (fault, next)) = accepted (fault_told fault) next
entries_told (Err e) = refused (number_of e.refusal) e.place

unfoldable pub entries_read : {A : Type 0} → (Placed A → Progress → Progress) → Progress → Outcome (List (Placed A)) → Outcome Fault
entries_read step g (accepted ps next) = accepted (through step ps g).fault next
entries_read step g (refused k p) = refused k p

-- the sheet then: of no use on a refusal
unfoldable pub entries_sheet : {A : Type 0} → (Placed A → Progress → Progress) → Progress → Outcome (List (Placed A)) → List ℕ
entries_sheet step g (accepted ps next) = (through step ps g).sheet
entries_sheet step g (refused k p) = []

-- the file's two parts, each a count and its entries

unfoldable pub visit_part : FileForm → Format (List (Placed StationVisit))
visit_part form = field 0 384 (visits_format form)

unfoldable pub relation_part : Format (List (Placed StationRelation))
relation_part = field 0 96 relations_format

-- visits before relations
unfoldable pub all_through : Network → Entries → Progress → Progress
all_through n x g = through (relation_step n) x.relations (through (visit_step n) x.visits g)

unfoldable pub timetable_entries : Network → Progress → Outcome Entries → Outcome Fault
timetable_entries n g (accepted x next) = accepted (all_through n x g).fault next
timetable_entries n g (refused k p) = refused k p

unfoldable pub timetable_sheet : Network → Progress → Outcome Entries → List ℕ
timetable_sheet n g (accepted x next) = (all_through n x g).sheet
timetable_sheet n g (refused k p) = []

-- The key ring of this module: `unfolding opened` opens every definition above.
unfoldable pub opened : Unit {0}
unfolding visit_refused relation_refused page_with_relation step_with visit_step relation_step through entries_read entries_sheet
    visit_part relation_part all_through timetable_entries timetable_sheet
opened = tt
