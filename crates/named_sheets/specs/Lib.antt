pub mod Types
pub mod between
