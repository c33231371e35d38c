-- The types of the crates below and of this crate, under one module for this crate's own files.
pub use Rattle.railway.specs.declared.sorts.Station.{Station}
pub use Rattle.railway.specs.declared.sorts.Train.{Train}
pub use Rattle.railway.specs.declared.sorts.Track.{Track}
pub use Rattle.railway.specs.declared.sorts.Line.{Line}
pub use Rattle.railway.specs.declared.sorts.Area.{Area}
pub use Rattle.railway.specs.declared.minute.Minute.{Minute}
pub use Rattle.railway.specs.declared.minute.WindowEnd.{WindowEnd}
pub use Rattle.network.specs.declared.StationRow.{StationRow}
pub use Rattle.network.specs.declared.LineRow.{LineRow}
pub use Rattle.network.specs.declared.Closure.{Closure}
pub use Rattle.network.specs.declared.Network.{Network}
