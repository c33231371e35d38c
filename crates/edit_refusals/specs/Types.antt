-- The types of the crates below and of this crate, under one module for this crate's own files.
pub use Rattle.railway.specs.declared.sorts.Train.{Train}
pub use Rattle.railway.specs.declared.visit.Visit.{Visit}
pub use Rattle.railway.specs.declared.edit.Extension.{Extension}
pub use Rattle.railway.specs.declared.edit.Deletion.{Deletion}
pub use Rattle.railway.specs.declared.edit.Edit.{Edit}
pub use Rattle.railway.specs.declared.edit.Edit.TheVariants.{Place, Prepend, Append, DeleteFirst, DeleteLast, Amend, ReportArrival, ReportDeparture, AddRelation, RemoveRelation, DeleteTrain}
pub use Rattle.network.specs.declared.Network.{Network}
pub use Rattle.edit_refusals.specs.declared.End.{End}
