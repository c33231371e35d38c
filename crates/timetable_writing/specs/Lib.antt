pub mod Types
pub mod Writing
pub mod between
