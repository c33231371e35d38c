pub mod Types
pub mod Sheets
pub mod between
