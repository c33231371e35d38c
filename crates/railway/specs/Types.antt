-- The types of the crates below and of this crate, under one module for this crate's own files.
pub use Rattle.railway.specs.declared.sorts.Station.{Station}
pub use Rattle.railway.specs.declared.sorts.Train.{Train}
pub use Rattle.railway.specs.declared.sorts.Track.{Track}
pub use Rattle.railway.specs.declared.sorts.Line.{Line}
pub use Rattle.railway.specs.declared.sorts.Area.{Area}
pub use Rattle.railway.specs.declared.minute.Minute.{Minute}
pub use Rattle.railway.specs.declared.minute.WindowEnd.{WindowEnd}
pub use Rattle.railway.specs.declared.relation.Trains.{Trains}
pub use Rattle.railway.specs.declared.relation.Pair.{Pair}
pub use Rattle.railway.specs.declared.relation.Relation.{Relation}
pub use Rattle.railway.specs.declared.relation.Relation.TheVariants.{Connection, Disconnection, Dependency}
pub use Rattle.railway.specs.declared.edit.Plan.{Plan}
pub use Rattle.railway.specs.declared.edit.Extension.{Extension}
pub use Rattle.railway.specs.declared.edit.Deletion.{Deletion}
pub use Rattle.railway.specs.declared.edit.Report.{Report}
pub use Rattle.railway.specs.declared.edit.StationRelation.{StationRelation}
pub use Rattle.railway.specs.declared.edit.Cancellation.{Cancellation}
pub use Rattle.railway.specs.declared.edit.Edit.{Edit}
pub use Rattle.railway.specs.declared.edit.Edit.TheVariants.{Place, Prepend, Append, DeleteFirst, DeleteLast, Amend, ReportArrival, ReportDeparture, AddRelation, RemoveRelation, DeleteTrain}
