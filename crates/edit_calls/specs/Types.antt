-- The types of the crates below and of this crate, under one module for this crate's own files.
pub use Rattle.railway.specs.declared.edit.Edit.{Edit}
pub use Rattle.network.specs.declared.Network.{Network}
pub use Rattle.timetable.specs.declared.Answer.{Answer}
pub use Rattle.edit_calls.specs.declared.RunError.{RunError}
pub use Rattle.page_edits.specs.declared.Layout.{Layout}
