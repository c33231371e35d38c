pub mod Outcomes
pub mod between
