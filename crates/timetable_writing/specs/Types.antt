-- The types of the crates below and of this crate, under one module for this crate's own files.
pub use Rattle.railway.specs.declared.sorts.Station.{Station}
pub use Rattle.railway.specs.declared.relation.Relation.{Relation}
pub use Rattle.railway.specs.declared.edit.StationRelation.{StationRelation}
pub use Rattle.network.specs.declared.StationRow.{StationRow}
pub use Rattle.network.specs.declared.Network.{Network}
pub use Rattle.base.specs.declared.refusal.Refusal.{Refusal}
pub use Rattle.base.specs.declared.refusal.OutputError.{OutputError}
pub use Rattle.timetable_writing.specs.declared.calls.Totals.{Totals}
