pub mod Types
pub mod Answers
pub mod between
