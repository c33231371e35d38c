pub mod Types
pub mod Pages
pub mod Layout
pub mod Insertions
pub mod between
