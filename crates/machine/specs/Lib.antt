pub mod Types
pub mod Calls
