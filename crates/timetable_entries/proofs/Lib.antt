pub mod EnterLaws
pub mod LoopLaws
pub mod SheetEntries
pub mod PartLaws
pub mod RestLaws
