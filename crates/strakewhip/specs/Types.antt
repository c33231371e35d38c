-- The types of the crates below, under one module for this crate's own files.
pub use Rattle.network.specs.declared.Network.{Network}
pub use Rattle.railway.specs.declared.sorts.Area.{Area}
pub use Rattle.timetable.specs.declared.NetworkForm.{NetworkForm}
pub use Rattle.timetable.specs.declared.FileForm.{FileForm}
pub use Rattle.replies.specs.declared.Reply.{Reply}
