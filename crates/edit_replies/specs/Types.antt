-- The types of the crates below, under one module for this crate's own files.
pub use Rattle.railway.specs.declared.sorts.Area.{Area}
pub use Rattle.railway.specs.declared.edit.Edit.{Edit}
pub use Rattle.network.specs.declared.Network.{Network}
pub use Rattle.timetable.specs.declared.Answer.{Answer}
pub use Rattle.timetable.specs.declared.Tally.{Tally}
pub use Rattle.replies.specs.declared.Reply.{Reply}
pub use Rattle.replies.specs.declared.CallError.{CallError}
