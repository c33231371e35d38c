-- The types of the crates below and of this crate, under one module for this crate's own files.
pub use Rattle.railway.specs.declared.sorts.Train.{Train}
pub use Rattle.railway.specs.declared.visit.InLink.{InLink}
pub use Rattle.railway.specs.declared.visit.OutLink.{OutLink}
pub use Rattle.railway.specs.declared.visit.Visit.{Visit}
pub use Rattle.railway.specs.declared.edit.Edit.{Edit}
pub use Rattle.railway.specs.declared.edit.Edit.TheVariants.{Place, Prepend, Append, DeleteFirst, DeleteLast, Amend, ReportArrival, ReportDeparture, AddRelation, RemoveRelation, DeleteTrain}
