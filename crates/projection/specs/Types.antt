-- The types of the crates below and of this crate, under one module for this crate's own files.
pub use Rattle.railway.specs.declared.sorts.Station.{Station}
pub use Rattle.railway.specs.declared.sorts.Train.{Train}
pub use Rattle.railway.specs.declared.minute.Minute.{Minute}
pub use Rattle.railway.specs.declared.visit.Outward.{Outward}
pub use Rattle.railway.specs.declared.visit.OutLink.{OutLink}
pub use Rattle.railway.specs.declared.visit.Visit.{Visit}
pub use Rattle.network.specs.declared.Network.{Network}
pub use Rattle.timetable.specs.declared.Row.{Row}
pub use Rattle.base.specs.declared.refusal.Refusal.{Refusal}
pub use Rattle.base.specs.declared.refusal.OutputError.{OutputError}
