-- The types of the crates below and of this crate, under one module for this crate's own files.
pub use Rattle.railway.specs.declared.sorts.Station.{Station}
pub use Rattle.railway.specs.declared.sorts.Train.{Train}
pub use Rattle.railway.specs.declared.sorts.Line.{Line}
pub use Rattle.railway.specs.declared.edit.Plan.{Plan}
pub use Rattle.railway.specs.declared.edit.Edit.{Edit}
pub use Rattle.railway.specs.declared.edit.Edit.TheVariants.{Place, Prepend, Append, DeleteFirst, DeleteLast, Amend, ReportArrival, ReportDeparture, AddRelation, RemoveRelation, DeleteTrain}
pub use Rattle.network.specs.declared.Network.{Network}
pub use Rattle.actions.specs.declared.shape.Shape.{Shape}
pub use Rattle.actions.specs.declared.shape.Shape.TheVariants.{Local, Throughout}
