pub mod Types
pub mod Rechecks
pub mod between
