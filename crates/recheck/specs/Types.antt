-- The types of the crates below and of this crate, under one module for this crate's own files.
pub use Rattle.railway.specs.declared.sorts.Station.{Station}
pub use Rattle.railway.specs.declared.sorts.Area.{Area}
pub use Rattle.railway.specs.declared.edit.Edit.{Edit}
pub use Rattle.network.specs.declared.LineRow.{LineRow}
pub use Rattle.network.specs.declared.Network.{Network}
pub use Rattle.timetable.specs.declared.Finding.{Finding}
pub use Rattle.actions.specs.declared.shape.Shape.{Shape}
pub use Rattle.actions.specs.declared.shape.Shape.TheVariants.{Local, Throughout}
pub use Rattle.scope.specs.declared.redone.Marks.{Marks}
