pub mod Drafts
pub mod RefusalLine
pub mod between
