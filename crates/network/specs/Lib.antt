pub mod Types
pub mod Networks
pub mod Positive
