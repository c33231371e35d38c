pub mod Types
pub mod Answers
pub mod Lists
pub mod between
