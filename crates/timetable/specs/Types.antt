-- The types of the railway and of this crate, under one module for this crate's own files. `Nothing` stands in two
-- enums: write InLink.Nothing and OutLink.Nothing.
pub use Rattle.railway.specs.declared.sorts.Station.{Station}
pub use Rattle.railway.specs.declared.sorts.Train.{Train}
pub use Rattle.railway.specs.declared.sorts.Track.{Track}
pub use Rattle.railway.specs.declared.sorts.Line.{Line}
pub use Rattle.railway.specs.declared.sorts.Area.{Area}
pub use Rattle.railway.specs.declared.minute.Minute.{Minute}
pub use Rattle.railway.specs.declared.visit.Inward.{Inward}
pub use Rattle.railway.specs.declared.visit.Outward.{Outward}
pub use Rattle.railway.specs.declared.visit.InLink.{InLink}
pub use Rattle.railway.specs.declared.visit.OutLink.{OutLink}
pub use Rattle.railway.specs.declared.visit.Visit.{Visit}
pub use Rattle.railway.specs.declared.relation.Trains.{Trains}
pub use Rattle.railway.specs.declared.relation.Pair.{Pair}
pub use Rattle.railway.specs.declared.relation.Relation.{Relation}
pub use Rattle.railway.specs.declared.relation.Relation.TheVariants.{Connection, Disconnection, Dependency}
pub use Rattle.railway.specs.declared.edit.Plan.{Plan}
pub use Rattle.railway.specs.declared.edit.Extension.{Extension}
pub use Rattle.railway.specs.declared.edit.Deletion.{Deletion}
pub use Rattle.railway.specs.declared.edit.Report.{Report}
pub use Rattle.railway.specs.declared.edit.StationRelation.{StationRelation}
pub use Rattle.railway.specs.declared.edit.Cancellation.{Cancellation}
pub use Rattle.railway.specs.declared.edit.Edit.{Edit}
pub use Rattle.railway.specs.declared.edit.Edit.TheVariants.{Place, Prepend, Append, DeleteFirst, DeleteLast, Amend}
pub use Rattle.railway.specs.declared.edit.Edit.TheVariants.{ReportArrival, ReportDeparture, AddRelation, RemoveRelation, DeleteTrain}
pub use Rattle.network.specs.declared.StationRow.{StationRow}
pub use Rattle.network.specs.declared.LineRow.{LineRow}
pub use Rattle.network.specs.declared.Closure.{Closure}
pub use Rattle.network.specs.declared.Network.{Network}
pub use Rattle.timetable.specs.declared.Answer.{Answer}
pub use Rattle.timetable.specs.declared.Finding.{Finding}
pub use Rattle.timetable.specs.declared.Row.{Row}
pub use Rattle.timetable.specs.declared.Tally.{Tally}
pub use Rattle.timetable.specs.declared.NetworkForm.{NetworkForm}
pub use Rattle.timetable.specs.declared.FileForm.{FileForm}
pub use Rattle.timetable.specs.declared.Fault.{Fault}
