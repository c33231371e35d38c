pub mod Types
pub mod Early
pub mod between
