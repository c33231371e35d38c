-- The types of the crates below, under one module for this crate's own files.
pub use Rattle.railway.specs.declared.sorts.Station.{Station}
pub use Rattle.railway.specs.declared.sorts.Train.{Train}
pub use Rattle.railway.specs.declared.visit.Visit.{Visit}
pub use Rattle.railway.specs.declared.edit.Edit.{Edit}
pub use Rattle.railway.specs.declared.edit.Edit.TheVariants.{Place, Prepend, Append, DeleteFirst, DeleteLast, Amend, ReportArrival, ReportDeparture, AddRelation, RemoveRelation, DeleteTrain}
pub use Rattle.network.specs.declared.Network.{Network}
pub use Rattle.timetable.specs.declared.Answer.{Answer}
pub use Rattle.page_edits.specs.declared.Layout.{Layout}
