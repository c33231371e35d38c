pub mod Gaps
pub mod RelationLaws
