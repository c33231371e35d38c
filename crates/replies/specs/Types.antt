-- The types of the crates below and of this crate, under one module for this crate's own files.
pub use Rattle.network.specs.declared.Network.{Network}
pub use Rattle.timetable.specs.declared.Answer.{Answer}
pub use Rattle.replies.specs.declared.Reply.{Reply}
pub use Rattle.replies.specs.declared.CallError.{CallError}
