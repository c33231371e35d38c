-- The ranges of edits: "3 a value or order is outside the ranges (edits too)". Assumes nothing.
use Rattle.std.specs.Prelude.{Bool, ◌&&◌}
use Rattle.railway.specs.Types.{Plan, Extension, Deletion, Report, StationRelation}
use Rattle.railway.specs.Types.{Edit, Place, Prepend, Append, DeleteFirst, DeleteLast, Amend}
use Rattle.railway.specs.Types.{ReportArrival, ReportDeparture, AddRelation, RemoveRelation, DeleteTrain}
use Rattle.railway.specs.Ranges.{station_ok, train_ok, track_ok, line_ok, minute_ok, run_ok}
use Rattle.railway.specs.Relations.{relation_ok}

unfoldable pub plan_ok : Plan → Bool
plan_ok p =
    (station_ok p.station && train_ok p.train)
    && (track_ok p.track && (minute_ok p.arrival && minute_ok p.departure))

unfoldable pub extension_ok : Extension → Bool
extension_ok x = plan_ok x.plan && (station_ok x.other && (line_ok x.line && run_ok x.run))

unfoldable pub deletion_ok : Deletion → Bool
deletion_ok d = station_ok d.station && (train_ok d.train && station_ok d.other)

-- "the present minute, 0..2879"
unfoldable pub report_ok : Report → Bool
report_ok r = (station_ok r.station && train_ok r.train) && (minute_ok r.time && minute_ok r.present)

unfoldable pub station_relation_ok : StationRelation → Bool
station_relation_ok r = station_ok r.station && relation_ok r.relation

unfoldable pub edit_ok : Edit → Bool
edit_ok (Place p) = plan_ok p
edit_ok (Prepend x) = extension_ok x
edit_ok (Append x) = extension_ok x
edit_ok (DeleteFirst d) = deletion_ok d
edit_ok (DeleteLast d) = deletion_ok d
edit_ok (Amend p) = plan_ok p
edit_ok (ReportArrival r) = report_ok r
edit_ok (ReportDeparture r) = report_ok r
edit_ok (AddRelation r) = station_relation_ok r
edit_ok (RemoveRelation r) = station_relation_ok r
edit_ok (DeleteTrain c) = train_ok c.train

-- The key ring of this module: `unfolding opened` opens every definition above.
unfoldable pub opened : Unit {0}
unfolding plan_ok extension_ok deletion_ok report_ok station_relation_ok edit_ok
opened = tt
