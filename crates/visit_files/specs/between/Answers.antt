-- The outcome that each answer of the readers of a visit tells; and the parts of an entry. Assumes nothing.
use Rattle.std.specs.Prelude.{ℕ, Result, Ok, Err, List, [], ◌∷◌, ◌++◌}
use Rattle.railway.specs.Ranges.{last_minute}
use Rattle.timetable.specs.Formats.{Format, done, Outcome, accepted, refused, Range, ◌to◌, row, ◌and_then◌}
use Rattle.timetable.specs.TimetableFile.{StationVisit, in_link_entry, out_link_entry, station_visit_of}
use Rattle.timetable.specs.declared.FileForm.{FileForm}
use Rattle.timetable.specs.FileForms.{mark_range, with_mark}
use Rattle.base.specs.declared.refusal.FileError.{FileError}
use Rattle.base.specs.RefusalNumbers.{number_of}
use Rattle.visit_files.specs.declared.visit.VisitEntry.{VisitEntry}

-- document 01's number and values for each case of an answer

abbrev pub visit_outcome : Result (VisitEntry × ℕ) FileError → Outcome StationVisit
visit_outcome (Ok (x, next)) = accepted (record { station = x.station; train = x.train; visit = x.visit }) next
visit_outcome (Err e) = refused (number_of e.refusal) e.place

-- the parts of an entry

-- "track, arrival, status, departure, status", the mark after the track where the form has it
unfoldable pub value_ranges : FileForm → List Range
value_ranges form = 1 to 8 ∷ (mark_range form ++ (0 to last_minute ∷ 0 to 1 ∷ 0 to last_minute ∷ 0 to 1 ∷ []))

-- a visit entry behind its station and train
unfoldable pub visit_values : FileForm → ℕ → ℕ → Format StationVisit
visit_values form s t =
    row (value_ranges form) [] and_then (λ ns.
    in_link_entry and_then (λ i. out_link_entry and_then (λ o. done (station_visit_of (with_mark form (s ∷ t ∷ ns)) i o))))

-- The key ring of this module: `unfolding opened` opens every definition above.
unfoldable pub opened : Unit {0}
unfolding value_ranges visit_values
opened = tt
