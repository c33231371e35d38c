-- The types of the crates below, under one module for this crate's own files.
pub use Rattle.railway.specs.declared.sorts.Station.{Station}
pub use Rattle.railway.specs.declared.sorts.Train.{Train}
pub use Rattle.railway.specs.declared.minute.Minute.{Minute}
pub use Rattle.railway.specs.declared.visit.OutLink.{OutLink}
pub use Rattle.railway.specs.declared.visit.Visit.{Visit}
pub use Rattle.network.specs.declared.StationRow.{StationRow}
pub use Rattle.network.specs.declared.Network.{Network}
pub use Rattle.timetable.specs.declared.Row.{Row}
