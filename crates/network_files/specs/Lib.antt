pub mod Answers
pub mod between
