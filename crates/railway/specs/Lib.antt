pub mod Types
pub mod Ranges
pub mod Relations
pub mod Edits
