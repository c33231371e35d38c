pub mod Types
pub mod Text
pub mod Shift
pub mod Inspect
pub mod Examples
